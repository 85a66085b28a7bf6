-- What a cut's store holds is the cut's content.
use Rattle.std.proofs.Common.{◌≡◌, ◌⊎◌, inl, inr, Bool, true, cond, List, [], ◌∷◌, map, Contains, Option, Some, None, refl, sym, ap, ◌∙◌, subst, arith}
use Rattle.std.specs.Prelude.{T}
use Rattle.std.specs.declared.cmp.Ordering.{Ordering}
use Rattle.std.specs.declared.cmp.Ordering.TheVariants.{Less, Equal, Greater}
use Rattle.std.specs.List.{AllByRecursion}
use Rattle.std.specs.Ordering.{eq_by_cmp, is_eq, ordering_reverse}
use Rattle.std.specs.FinMap.{find, get, empty, get-from_sorted}
use Rattle.std.specs.FinMap.Entries.{below_all}
use Rattle.std.proofs.lemmas.Bool.{cases_Bool}
use Rattle.std.proofs.lemmas.Cmp.{tied_itself}
use Rattle.std.proofs.lemmas.List.Elements.{Contains-append_left, Contains-append_right, Contains-append_cases, Contains-push, Contains-push_cases}
use Rattle.cell_model.specs.Order.{VersionKey, version_cmp, Payload, payload_of, Content, NumberedCell, version_of, cells_of}
use Rattle.cell_model.specs.Merge.{entry_of, IsRising, put_numbered}
use Rattle.cell_model.proofs.OrderLaws.{version_cmp_total, version_cmp_exact}
use Rattle.mem_segments.proofs.Contents.{first, second, less, rising-cells_of, content_of-cells_of}
use Rattle.flush_snapshot.specs.Laws.{CutHoldsItsContent}

abbrev found : VersionKey → List NumberedCell → Option Payload
found v xs = find version_cmp v (map entry_of xs)

-- looked up among these cells, it is found
abbrev IsFound : List NumberedCell → NumberedCell → Type 0
IsFound xs x = found (version_of x) xs ≡ Some (payload_of x.1)

first_found : (x : NumberedCell) (xs : List NumberedCell) → IsFound (x ∷ xs) x
first_found x xs = ap (λ (r : Ordering). cond (is_eq r) (Some (payload_of x.1)) (found (version_of x) xs)) (tied_itself version_cmp_total (version_of x))

passed : (x y : NumberedCell) (xs : List NumberedCell) → version_cmp (version_of x) (version_of y) ≡ Less → found (version_of y) (x ∷ xs) ≡ found (version_of y) xs
passed x y xs before =
    ap (λ (r : Ordering). cond (is_eq r) (Some (payload_of x.1)) (found (version_of y) xs)) (version_cmp_total.antisymm (version_of y) (version_of x) ∙ ap ordering_reverse before)

later_found : (x : NumberedCell) (xs ys : List NumberedCell) → T (below_all version_cmp (version_of x) (map entry_of ys)) → AllByRecursion (IsFound xs) ys → AllByRecursion (IsFound (x ∷ xs)) ys
later_found x xs [] below each = tt
later_found x xs (y ∷ ys) below each = (passed x y xs (less (version_cmp (version_of x) (version_of y)) (first _ _ below)) ∙ each.0, later_found x xs ys (second _ _ below) each.1)

-- of cells in order each is found
each_found : (xs : List NumberedCell) → IsRising xs → AllByRecursion (IsFound xs) xs
each_found [] rises = tt
each_found (x ∷ xs) rises = (first_found x xs, later_found x xs xs (first _ _ rises) (each_found xs (second _ _ rises)))

none_in : (x : NumberedCell) → Contains [] x → ⊥
none_in x h = omega (arith, h.1)

first_or_later : (x : NumberedCell) (xs : List NumberedCell) (y : NumberedCell) → Contains (x ∷ xs) y → (x ≡ y) ⊎ Contains xs y
first_or_later x xs y h = elim (Contains-append_cases (x ∷ []) xs y h) as (λ _. (x ≡ y) ⊎ Contains xs y) [
  | inl here ↦ elim (Contains-push_cases [] x y here) as (λ _. (x ≡ y) ⊎ Contains xs y) [ inl none ↦ absurd (none_in y none) | inr is ↦ inl is ]
  | inr later ↦ inr later
]

each_in : (P : NumberedCell → Type 0) (xs : List NumberedCell) (x : NumberedCell) → AllByRecursion P xs → Contains xs x → P x
each_in P [] x each is = absurd (none_in x is)
each_in P (y ∷ ys) x each is = elim (first_or_later y ys x is) as (λ _. P x) [ inl here ↦ subst P here each.0 | inr later ↦ each_in P ys x each.1 later ]

-- one of these cells has this version and payload
abbrev HasCell : List NumberedCell → VersionKey → Payload → Type 0
HasCell xs v p = (x : NumberedCell) × Contains xs x × (version_of x ≡ v) × (payload_of x.1 ≡ p)

is_equal : (o : Ordering) → is_eq o ≡ true → o ≡ Equal
is_equal Less e = absurd cc
is_equal Equal e = refl
is_equal Greater e = absurd cc

one_payload : (p q : Payload) → Some p ≡ Some q → p ≡ q
one_payload p q same = cc (same)

-- what is found is one of these cells
found_in : (xs : List NumberedCell) (v : VersionKey) (p : Payload) → found v xs ≡ Some p → HasCell xs v p
found_in [] v p is = (let none : None ≡ Some p = is in absurd (cc (none)))
found_in (x ∷ xs) v p is = elim (cases_Bool (eq_by_cmp version_cmp v (version_of x))) as (λ _. HasCell (x ∷ xs) v p) [
  | inl same ↦ (
    x,
    Contains-append_left (x ∷ []) xs x (Contains-push [] x),
    sym (version_cmp_exact v (version_of x) (is_equal (version_cmp v (version_of x)) same)),
    one_payload (payload_of x.1) p (sym (ap (λ (b : Bool). cond b (Some (payload_of x.1)) (found v xs)) same) ∙ is),
  )
  | inr other ↦ (
      let later = found_in xs v p (sym (ap (λ (b : Bool). cond b (Some (payload_of x.1)) (found v xs)) other) ∙ is) in
      (later.0, Contains-append_right (x ∷ []) xs later.0 later.1, later.2, later.3))
]

in_found : (xs : List NumberedCell) (v : VersionKey) (p : Payload) → IsRising xs → HasCell xs v p → found v xs ≡ Some p
in_found xs v p rises has = ap (λ (w : VersionKey). found w xs) (sym has.2) ∙ each_in (IsFound xs) xs has.0 (each_found xs rises) has.1 ∙ ap (λ (q : Payload). Some q) has.3

-- a content's cells are looked up as the content is
get_found : (m : Content) (v : VersionKey) → get m v ≡ found v (cells_of m)
get_found m v = ap (λ (c : Content). get c v) (sym (content_of-cells_of m)) ∙ get-from_sorted version_cmp (map entry_of (cells_of m)) v (rising-cells_of m)

pub cut_holds : CutHoldsItsContent
cut_holds name family from to cut v p =
    let m : Content = put_numbered empty cut in (
      (λ has. get_found m v ∙ in_found (cells_of m) v p (rising-cells_of m) has),
      (λ is. found_in (cells_of m) v p (sym (get_found m v) ∙ is)),
    )
