-- Each call of a handler is listed.
use Rattle.std.proofs.Common.{ℕ, zero, suc, ◌<◌, ◌≤◌, List, [], ◌∷◌, map, Contains, sym, subst, arith}
use Rattle.std.specs.List.{flat_map, range_with_len}
use Rattle.std.proofs.lemmas.List.Elements.{Contains-append_left, Contains-append_right}
use Rattle.run_model.proofs.Lists.{map_contains, range_has}
use Rattle.embedded.specs.Flushers.{caller_at, callers}

in_flat : {A B : Type 0} (f : A → List B) (xs : List A) (y : B) (x : A) → Contains xs x → Contains (f x) y → Contains (flat_map f xs) y
in_flat f [] y x (k, lt, e) there = absurd (omega (arith, lt))
in_flat f (a ∷ xs) y x (zero, lt, e) there = Contains-append_left (f a) (flat_map f xs) y (subst (λ z. Contains (f z) y) (sym e) there)
in_flat f (a ∷ xs) y x (suc k, lt, e) there = Contains-append_right (f a) (flat_map f xs) y (in_flat f xs y x (k, omega (arith, lt), e) there)

pub may_flush : (handlers calls h c : ℕ) → 1 ≤ h → h ≤ handlers → c < calls → Contains (callers handlers calls) (caller_at h c)
unfolding callers
may_flush handlers calls h c low high few =
    in_flat (λ i. map (caller_at i) (range_with_len 0 calls)) (range_with_len 1 handlers) (caller_at h c) h (range_has handlers 1 h low (omega (arith, high)))
    (map_contains (caller_at h) (range_with_len 0 calls) c (range_has calls 0 c (omega arith) (omega (arith, few))))
