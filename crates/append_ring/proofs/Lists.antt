-- The items of one region, and drawn numbers that follow one another.
use Rattle.std.proofs.Common.{◌≡◌, ◌≢◌, ◌⊎◌, ℕ, zero, suc, ◌+◌, ◌<◌, ◌==◌, Bool, true, false, cond, List, [], ◌∷◌, ◌++◌, length, refl, sym, ap, ◌∙◌, inl, inr, ⊎_elim, arith, eq-eqb, ne_eqb}
use mathlib.Core.Option.{some, some-injective, some-ne-none}
use lib.ListN.{get_elem?}
use Rattle.std.specs.Prelude.{Option}
use Rattle.std.proofs.lemmas.List.{append-nil}
use Rattle.std.proofs.Common.{length-append, length-set, get_or, set, min, get_or-set_same, get_or-set_other}
use mathlib.Core.Logic.{dite}
use native.Mathlib.Decide.{ℕ_discrete}
use Rattle.append_ring.specs.Rules.{of, next_or, end_of, Follows, IsGood, Runs}

-- f with xs at r
abbrev pub put : {A : Type 0} → (ℕ → A) → ℕ → A → ℕ → A
put f r a k = cond (k == r) a (f k)

pub put_same : {A : Type 0} (f : ℕ → A) (r : ℕ) (a : A) → put f r a r ≡ a
put_same {A} f r a = ap (λ (b : Bool). cond b a (f r)) (eq-eqb r r refl)

pub put_other : {A : Type 0} (f : ℕ → A) (r : ℕ) (a : A) (k : ℕ) → k ≢ r → put f r a k ≡ f k
put_other {A} f r a k ne = ap (λ (b : Bool). cond b a (f k)) (ne_eqb k r ne)

pub at_snoc_end : {A : Type 0} (l : List A) (a b : A) (j : ℕ) → get_elem? (l ++ a ∷ []) j ≡ some b → (get_elem? l j ≡ some b) ⊎ ((j ≡ length l) × (a ≡ b))
at_snoc_end [] a b zero e = inr (refl, some-injective a b e)
at_snoc_end [] a b (suc j) e = absurd (some-ne-none b (sym e))
at_snoc_end (x ∷ xs) a b zero e = inl e
at_snoc_end (x ∷ xs) a b (suc j) e = ⊎_elim inl (λ (t : (j ≡ length xs) × (a ≡ b)). inr (ap suc t.0, t.1)) (at_snoc_end xs a b j e)

module _ {T : Type 0} (place : T → ℕ) where
  cons_if : (b : Bool) (x : T) (xs ys zs : List T) → zs ≡ xs ++ ys → cond b (x ∷ zs) zs ≡ cond b (x ∷ xs) xs ++ ys
  cons_if true x xs ys zs e = ap (λ l. x ∷ l) e
  cons_if false x xs ys zs e = e

  pub of-append : (r : ℕ) (xs ys : List T) → of place r (xs ++ ys) ≡ of place r xs ++ of place r ys
  of-append r [] ys = refl
  of-append r (x ∷ xs) ys = cons_if (place x == r) x (of place r xs) (of place r ys) (of place r (xs ++ ys)) (of-append r xs ys)

  pub of_here : (r : ℕ) (x : T) (xs : List T) → place x ≡ r → of place r (x ∷ xs) ≡ x ∷ of place r xs
  of_here r x xs e = ap (λ (b : Bool). cond b (x ∷ of place r xs) (of place r xs)) (eq-eqb (place x) r e)

  pub of_else : (r : ℕ) (x : T) (xs : List T) → place x ≢ r → of place r (x ∷ xs) ≡ of place r xs
  of_else r x xs ne = ap (λ (b : Bool). cond b (x ∷ of place r xs) (of place r xs)) (ne_eqb (place x) r ne)

-- the last drawn number once one item more is there
pub end_of-snoc : {T : Type 0} (number : T → Option ℕ) (k : ℕ) (xs : List T) (x : T) → end_of number k (xs ++ x ∷ []) ≡ next_or number (end_of number k xs) (number x)
end_of-snoc number k [] x = refl
end_of-snoc number k (y ∷ ys) x = end_of-snoc number (next_or number k (number y)) ys x

module _ {T : Type 0} (place : T → ℕ) (number : T → Option ℕ) (is_whole : T → Type 0) (in_order : List ℕ → List T → Type 0) where
  pub runs_snoc : (n k : ℕ) (xs : List T) (x : T) → Runs place number is_whole in_order n k xs → IsGood place number is_whole in_order n x → Follows number (end_of number k xs) x → Runs place number is_whole in_order n k (xs ++ x ∷ [])
  runs_snoc n k [] x r good next = (good, next, tt)
  runs_snoc n k (y ∷ ys) x r good next = (r.0, r.1, runs_snoc n (next_or number k (number y)) ys x r.2 good next)

  pub runs_mid : (n k : ℕ) (xs : List T) (x : T) (ys : List T) → Runs place number is_whole in_order n k (xs ++ x ∷ ys) → IsGood place number is_whole in_order n x × Follows number (end_of number k xs) x
  runs_mid n k [] x ys r = (r.0, r.1)
  runs_mid n k (y ∷ xs) x ys r = runs_mid n (next_or number k (number y)) xs x ys r.2

-- a beginning as long as the whole is the whole
pub whole : {A : Type 0} (xs ys zs : List A) → xs ≡ ys ++ zs → length ys ≡ length xs → ys ≡ xs
whole xs ys [] e len = sym (e ∙ append-nil ys)
whole xs ys (z ∷ zs) e len = absurd (omega (arith, ap length e, length-append ys (z ∷ zs)))

module _ {T : Type 0} (place : T → ℕ) where
  -- the counts of what was popped of each region, after one pop more
  pub counts_one_more : (popped : List T) (x : T) (counts : List ℕ) (at new most : ℕ) → place x ≡ at + 1 → at < length counts
      → ((i : ℕ) → i < length counts → get_or counts i 0 ≡ min (length (of place (i + 1) popped)) most) → new ≡ min (get_or counts at 0 + 1) most
      → (i : ℕ) → i < length (set counts at new) → get_or (set counts at new) i 0 ≡ min (length (of place (i + 1) (popped ++ x ∷ []))) most
  counts_one_more popped x counts at new most is far counted now i low =
      let low' : i < length counts = omega (arith, length-set counts at new) in
      let more : length (of place (i + 1) (popped ++ x ∷ [])) ≡ length (of place (i + 1) popped) + length (of place (i + 1) (x ∷ [])) =
      ap length (of-append place (i + 1) popped (x ∷ [])) ∙ length-append (of place (i + 1) popped) (of place (i + 1) (x ∷ [])) in
      dite (ℕ_discrete i at)
      (λ e.
      let one : length (of place (i + 1) (x ∷ [])) ≡ 1 = ap length (of_here place (i + 1) x [] (is ∙ ap (λ (k : ℕ). k + 1) (sym e))) in
      let here : get_or (set counts at new) i 0 ≡ new = ap (λ (k : ℕ). get_or (set counts at new) k 0) e ∙ get_or-set_same counts at new 0 far in
      let old : get_or counts at 0 ≡ min (length (of place (i + 1) popped)) most = ap (λ (k : ℕ). get_or counts k 0) (sym e) ∙ counted i low' in
      omega (arith, here, now, old, more, one))
      (λ ne.
      let none : length (of place (i + 1) (x ∷ [])) ≡ 0 = ap length (of_else place (i + 1) x [] (λ e. ne (omega (arith, is, e)))) in
      let else : get_or (set counts at new) i 0 ≡ get_or counts i 0 = get_or-set_other counts at i new 0 ne in
      omega (arith, else, counted i low', more, none))
