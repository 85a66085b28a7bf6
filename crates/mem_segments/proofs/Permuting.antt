-- Rows that are the same in another order, and rise, put what the given ones put.
use Rattle.std.specs.Prelude.{◌≡◌, ℕ, zero, suc, ◌+◌, ◌-◌, ◌<◌, ◌≤◌, true, false, cond, T, IsTrue, List, [], ◌∷◌, map, length, Option, Some, None, Contains}
use Rattle.std.proofs.Common.{refl, sym, ap, subst, ◌∙◌, arith, get_or, inl, inr}
use Rattle.std.specs.declared.cmp.Ordering.{Ordering}
use Rattle.std.specs.declared.cmp.Ordering.TheVariants.{Less, Equal, Greater}
use Rattle.std.specs.Ordering.{is_lt, is_eq, eq_by_cmp, ordering_reverse}
use Rattle.std.specs.Option.{is_some}
use Rattle.std.specs.List.Sorted.{IsPermutation}
use Rattle.std.proofs.lemmas.List.Sorted.{Contains-permutation, IsPermutation-sym}
use Rattle.std.proofs.lemmas.Bool.{cases_lt}
use Rattle.std.proofs.lemmas.Cmp.{tied_itself}
use Rattle.std.specs.FinMap.{get, empty, find, insert, get-empty, get-insert, get-from_sorted}
use Rattle.std.specs.FinMap.Entries.{below_all}
use Rattle.cell_model.specs.Order.{VersionKey, version_cmp, Payload, payload_of, Content, NumberedCell, version_of, numbered_cmp}
use Rattle.cell_model.specs.Join.{or_else}
use Rattle.cell_model.specs.Merge.{entry_of, IsRising, content_of, put_numbered}
use Rattle.cell_model.proofs.OrderLaws.{version_cmp_total, version_cmp_exact}
use Rattle.cell_model.proofs.JoinLaws.{same_content}
use Rattle.cell_model.proofs.MergeLaws.{get-put_numbered, rising-one}
use Rattle.mem_segments.proofs.Contents.{first, second, both, less, rising_content}

-- ---- each before the next, so each before all that follow

is_less : (o : Ordering) → o ≡ Less → T (is_lt o)
is_less o e = subst (λ (r : Ordering). T (is_lt r)) (sym e) tt

below_later : (x y : NumberedCell) (zs : List NumberedCell) → numbered_cmp x y ≡ Less → T (below_all version_cmp (version_of y) (map entry_of zs)) → T (below_all version_cmp (version_of x) (map entry_of zs))
below_later x y [] l h = tt
below_later x y (z ∷ zs) l h =
    both _ _ (is_less (numbered_cmp x z) (version_cmp_total.trans (version_of x) (version_of y) (version_of z) l (less _ (first _ _ h)))) (below_later x y zs l (second _ _ h))

-- each two neighbours rise
abbrev pub AreNeighbours : ℕ → List NumberedCell → Type 0
AreNeighbours n xs = (k j : ℕ) (d : NumberedCell) → j ≡ k + 1 → j < n → numbered_cmp (get_or xs k d) (get_or xs j d) ≡ Less

pub neighbours_rise : (xs : List NumberedCell) → AreNeighbours (length xs) xs → IsRising xs
neighbours_rise [] h = tt
neighbours_rise (x ∷ []) h = rising-one x
neighbours_rise (x ∷ y ∷ ys) h =
    let rest : IsRising (y ∷ ys) = neighbours_rise (y ∷ ys) (λ k j d e lt. h (suc k) (suc j) d (omega arith) (omega arith)) in
    let head : numbered_cmp x y ≡ Less = h 0 1 x (omega arith) (omega arith) in
    both _ _ (both _ _ (is_less (numbered_cmp x y) head) (below_later x y ys head (first _ _ rest))) rest

any_default : (xs : List NumberedCell) (k : ℕ) (d e : NumberedCell) → k < length xs → get_or xs k d ≡ get_or xs k e
any_default [] k d e lt = absurd (omega arith)
any_default (x ∷ xs) zero d e lt = refl
any_default (x ∷ xs) (suc k) d e lt = any_default xs k d e (omega arith)

lt_less : (o : Ordering) → is_lt o ≡ true → o ≡ Less
lt_less Less e = refl
lt_less Equal e = absurd cc
lt_less Greater e = absurd cc

pub one_neighbour_more : (n : ℕ) (xs : List NumberedCell) (x y : NumberedCell) → 1 ≤ n → n < length xs → x ≡ get_or xs (n - 1) x → y ≡ get_or xs n y → is_lt (numbered_cmp x y) ≡ true → AreNeighbours n xs
    → AreNeighbours (n + 1) xs
one_neighbour_more n xs x y least lt at next l h k j d e within =
    elim (cases_lt j n) [
      | inl before ↦ h k j d e before
      | inr here ↦
          let last : j ≡ n = omega arith in
          let prior : k ≡ n - 1 = omega arith in
          let left : get_or xs k d ≡ x = ap (λ (i : ℕ). get_or xs i d) prior ∙ any_default xs (n - 1) d x (omega arith) ∙ sym at in
          let right : get_or xs j d ≡ y = ap (λ (i : ℕ). get_or xs i d) last ∙ any_default xs n d y lt ∙ sym next in
          (λ i. numbered_cmp (left i) (right i)) ∙ lt_less (numbered_cmp x y) l
    ]

-- ---- what is put is what a member has

equal : (r : Ordering) → T (is_eq r) → r ≡ Equal
equal Less p = absurd p
equal Equal p = refl
equal Greater p = absurd p

abbrev here : VersionKey → NumberedCell → Option Payload
here q x = cond (eq_by_cmp version_cmp q (version_of x)) (Some (payload_of x.1)) None

one_put : (x : NumberedCell) (xs : List NumberedCell) (q : VersionKey) → get (put_numbered empty (x ∷ xs)) q ≡ or_else (get (put_numbered empty xs) q) (here q x)
one_put x xs q =
    get-put_numbered (insert empty (version_of x) (payload_of x.1)) xs q
    ∙ ap (or_else (get (put_numbered empty xs) q)) (get-insert version_cmp_total empty (version_of x) (payload_of x.1) q ∙ ap (cond (eq_by_cmp version_cmp q (version_of x)) (Some (payload_of x.1))) (get-empty version_cmp q))

abbrev IsMember : List NumberedCell → VersionKey → Payload → Type 0
IsMember xs q p = (x : NumberedCell) × Contains xs x × (version_of x ≡ q) × (payload_of x.1 ≡ p)

further : (x : NumberedCell) (xs : List NumberedCell) (q : VersionKey) (p : Payload) → IsMember xs q p → IsMember (x ∷ xs) q p
further x xs q p m = let lt = m.1.1 in (m.0, (suc m.1.0, omega arith, m.1.2), m.2, m.3)

at_head : (x : NumberedCell) (xs : List NumberedCell) (q : VersionKey) (p : Payload) → here q x ≡ Some p → IsMember (x ∷ xs) q p
at_head x xs q p e =
    elim (eq_by_cmp version_cmp q (version_of x)) as (λ b. eq_by_cmp version_cmp q (version_of x) ≡ b → cond b (Some (payload_of x.1)) None ≡ Some p → IsMember (x ∷ xs) q p) [
      | true ↦ λ t s. (x, (0, omega arith, refl), sym (version_cmp_exact q (version_of x) (equal _ (subst T (sym t) tt))), cc)
      | false ↦ λ t s. absurd cc
    ] refl e

in_put : (xs : List NumberedCell) (q : VersionKey) (p : Payload) → get (put_numbered empty xs) q ≡ Some p → IsMember xs q p
in_put [] q p e = let none = sym (get-empty version_cmp q) ∙ e in absurd cc
in_put (x ∷ xs) q p e =
    elim (get (put_numbered empty xs) q) as (λ o. get (put_numbered empty xs) q ≡ o → or_else o (here q x) ≡ Some p → IsMember (x ∷ xs) q p) [
      | Some u ↦ λ was s. further x xs q p (in_put xs q p (was ∙ s))
      | None ↦ λ was s. at_head x xs q p s
    ] refl (sym (one_put x xs q) ∙ e)

some_left : (o r : Option Payload) → IsTrue (is_some o) → IsTrue (is_some (or_else o r))
some_left (Some u) r h = h
some_left None r h = absurd cc

some_right : (o r : Option Payload) → IsTrue (is_some r) → IsTrue (is_some (or_else o r))
some_right (Some u) r h = refl
some_right None r h = h

some_put : (xs : List NumberedCell) (x : NumberedCell) (k : ℕ) → k < length xs → get_or xs k x ≡ x → IsTrue (is_some (get (put_numbered empty xs) (version_of x)))
some_put [] x k lt at = absurd (omega arith)
some_put (y ∷ xs) x zero lt at =
    let own : here (version_of x) y ≡ Some (payload_of x.1) = ap (here (version_of x)) at ∙ ap (λ (r : Ordering). cond (is_eq r) (Some (payload_of x.1)) None) (tied_itself version_cmp_total (version_of x)) in
    subst (λ (o : Option Payload). IsTrue (is_some o)) (sym (one_put y xs (version_of x))) (some_right _ _ (ap is_some own))
some_put (y ∷ xs) x (suc k) lt at =
    subst (λ (o : Option Payload). IsTrue (is_some o)) (sym (one_put y xs (version_of x))) (some_left _ _ (some_put xs x k (omega arith) at))

-- ---- of rows that rise each is found

below_at : (k : VersionKey) (xs : List NumberedCell) (x : NumberedCell) (j : ℕ) → T (below_all version_cmp k (map entry_of xs)) → j < length xs → get_or xs j x ≡ x → version_cmp k (version_of x) ≡ Less
below_at k [] x j h lt at = absurd (omega arith)
below_at k (y ∷ xs) x zero h lt at = ap (λ (z : NumberedCell). version_cmp k (version_of z)) (sym at) ∙ less _ (first _ _ h)
below_at k (y ∷ xs) x (suc j) h lt at = below_at k xs x j (second _ _ h) (omega arith) at

abbrev found : VersionKey → List NumberedCell → Option Payload
found q xs = find version_cmp q (map entry_of xs)

found_itself : (xs : List NumberedCell) (x : NumberedCell) (k : ℕ) → IsRising xs → k < length xs → get_or xs k x ≡ x → found (version_of x) xs ≡ Some (payload_of x.1)
found_itself [] x k g lt at = absurd (omega arith)
found_itself (y ∷ xs) x zero g lt at =
    ap (λ (z : NumberedCell). found (version_of x) (z ∷ xs)) at ∙ ap (λ (r : Ordering). cond (is_eq r) (Some (payload_of x.1)) (found (version_of x) xs)) (tied_itself version_cmp_total (version_of x))
found_itself (y ∷ xs) x (suc k) g lt at =
    let before = below_at (version_of y) xs x k (first _ _ g) (omega arith) at in
    let after : version_cmp (version_of x) (version_of y) ≡ Greater = version_cmp_total.antisymm (version_of x) (version_of y) ∙ ap ordering_reverse before in
    ap (λ (r : Ordering). cond (is_eq r) (Some (payload_of y.1)) (found (version_of x) xs)) after ∙ found_itself xs x k (second _ _ g) (omega arith) at

-- ---- the same rows in another order

found_there : (xs ys : List NumberedCell) (q : VersionKey) (p : Payload) → IsPermutation xs ys → IsRising ys → IsMember xs q p → found q ys ≡ Some p
found_there xs ys q p same g m =
    let c = Contains-permutation xs ys m.0 same m.1 in
    ap (λ (v : VersionKey). found v ys) (sym m.2) ∙ found_itself ys m.0 c.0 g c.1 c.2 ∙ ap Some m.3

none_there : (xs ys : List NumberedCell) (q : VersionKey) (p : Payload) → IsPermutation xs ys → get (put_numbered empty xs) q ≡ None → IsMember ys q p → ⊥
none_there xs ys q p same none m =
    let c = Contains-permutation ys xs m.0 (IsPermutation-sym xs ys same) m.1 in
    let some = subst (λ (v : VersionKey). IsTrue (is_some (get (put_numbered empty xs) v))) m.2 (some_put xs m.0 c.0 c.1 c.2) in
    let never = sym (ap is_some none) ∙ some in
    absurd cc

same_found : (xs ys : List NumberedCell) (q : VersionKey) → IsPermutation xs ys → IsRising ys → get (content_of ys) q ≡ get (put_numbered empty xs) q
same_found xs ys q same g =
    let there : get (content_of ys) q ≡ found q ys = get-from_sorted version_cmp (map entry_of ys) q g in
    elim (get (put_numbered empty xs) q) as (λ o. get (put_numbered empty xs) q ≡ o → get (content_of ys) q ≡ o) [
      | Some p ↦ λ e. there ∙ found_there xs ys q p same g (in_put xs q p e)
      | None ↦ λ none. elim (get (content_of ys) q) as (λ o. get (content_of ys) q ≡ o → o ≡ None) [
        | None ↦ λ e. refl
        | Some p ↦ λ e. absurd (none_there xs ys q p same none (in_put ys q p (sym (ap (λ (m : Content). get m q) (rising_content ys g)) ∙ e)))
      ] refl
    ] refl

pub permuted_content : (xs ys : List NumberedCell) → IsPermutation xs ys → IsRising ys → content_of ys ≡ put_numbered empty xs
permuted_content xs ys same g = same_content (content_of ys) (put_numbered empty xs) (λ q. same_found xs ys q same g)
