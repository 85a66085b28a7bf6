-- The deletes of a family, gathered cell by cell.
use Rattle.std.proofs.Common.{◌≡◌, T, ℕ, suc, ◌+◌, ◌-◌, ◌<◌, Some, Option, ◌&&◌, ◌||◌, ◌==◌, nat_le, Bool, true, false, List, [], ◌∷◌, ◌++◌, length, take, drop, get_or, Contains, refl, sym, ap, ◌∙◌, subst, arith, inl, inr}
use Rattle.std.specs.List.{list_any}
use Rattle.std.proofs.lemmas.Bool.{and_parts, or_cases, eqb-true, eq-eqb, true≢false, false_from_ne_true, cases_lt}
use Rattle.std.proofs.lemmas.List.{take-append-drop, take_all, drop_at, length-append, length-take-le}
use Rattle.std.proofs.Math.Seq.{drop-cons}
use Rattle.std.proofs.lemmas.List.Elements.{Contains-append_cases}
use Rattle.std.proofs.lemmas.List.Folds.{list_any-append}
use Rattle.std.proofs.Common.{Result, Ok, Err, is_ok, nat_cmp}
use Rattle.std.specs.List.Sorted.{IsBinarySearchResult, IsNonDecreasing, IsPermutation}
use Rattle.std.proofs.lemmas.List.Sorted.{searched, list_any-IsPermutation}
use Rattle.std.proofs.lemmas.List.Folds.{list_any_at}
use Rattle.std.proofs.lemmas.List.{get_or_default}
use Rattle.cell_model.specs.Order.{NumberedCell}
use Rattle.cell_model.specs.Merge.{IsRising}
use Rattle.mask_model.specs.Masked.{same, in_family, by_delete_family, by_delete_family_version}
use Rattle.mask_model.specs.Passing.{covered}
use Rattle.mask_model.proofs.Order.{IsFamily, above, below, family_between, same_itself}
use Rattle.mask_model.proofs.Passing.{some_there, family_from}
use Rattle.row_reader.specs.Marks.{Marked, reaches, marks, IsMarkedAt, IsMarkedUpTo}
use Rattle.row_reader.proofs.Splits.{one_there, next_front, parted, IsEnding, before_seam, at_seam}

pub to_family : (x y : NumberedCell) → IsFamily x y → in_family x.1 y.1 ≡ true
to_family x y f = (λ i. same (f.row i) y.1.row && same (f.family i) y.1.family) ∙ (λ i. same_itself y.1.row i && same_itself y.1.family i)

-- ---- one cell more

module _ (front : List NumberedCell) (w p : NumberedCell) (of : in_family w.1 p.1 ≡ true) (through : Option ℕ) (exact : List ℕ)
    (so_far : marks (record { through = through; exact = exact }) p.1.ts ≡ covered front p) where
  covered_more : covered (front ++ w ∷ []) p ≡ covered front p || ((w.1.kind == 14 && nat_le p.1.ts w.1.ts) || (w.1.kind == 10 && w.1.ts == p.1.ts))
  covered_more = list_any-append (λ d. by_delete_family d.1 p.1 || by_delete_family_version d.1 p.1) front (w ∷ [])
      ∙ (λ i. covered front p || (((w.1.kind == 14 && (of i && nat_le p.1.ts w.1.ts)) || (w.1.kind == 10 && (of i && w.1.ts == p.1.ts))) || false))
      ∙ ap (λ b. covered front p || b) (bare ((w.1.kind == 14 && nat_le p.1.ts w.1.ts) || (w.1.kind == 10 && w.1.ts == p.1.ts)))
    where
      bare : (b : Bool) → b || false ≡ b
      bare true = refl
      bare false = refl

  pub past_family : (t : ℕ) → w.1.kind ≡ 14 → ((q : ℕ) → reaches (Some t) q ≡ (reaches through q || nat_le q w.1.ts))
      → marks (record { through = Some t; exact = exact }) p.1.ts ≡ covered (front ++ w ∷ []) p
  past_family t kind later =
      (λ i. later p.1.ts i || list_any (λ t. t == p.1.ts) exact)
      ∙ turned (reaches through p.1.ts) (nat_le p.1.ts w.1.ts) (list_any (λ t. t == p.1.ts) exact)
      ∙ (λ i. so_far i || ((sym kind i == 14 && nat_le p.1.ts w.1.ts) || (sym kind i == 10 && w.1.ts == p.1.ts)))
      ∙ sym covered_more
    where
      turned : (a b c : Bool) → (a || b) || c ≡ (a || c) || (b || false)
      turned true b c = refl
      turned false true true = refl
      turned false true false = refl
      turned false false true = refl
      turned false false false = refl

  pub past_version : w.1.kind ≡ 10 → marks (record { through = through; exact = exact ++ w.1.ts ∷ [] }) p.1.ts ≡ covered (front ++ w ∷ []) p
  past_version kind =
      ap (λ b. reaches through p.1.ts || b) (list_any-append (λ t. t == p.1.ts) exact (w.1.ts ∷ []))
      ∙ turned (reaches through p.1.ts) (w.1.ts == p.1.ts) (list_any (λ t. t == p.1.ts) exact)
      ∙ (λ i. so_far i || ((sym kind i == 14 && nat_le p.1.ts w.1.ts) || (sym kind i == 10 && w.1.ts == p.1.ts)))
      ∙ sym covered_more
    where
      turned : (a b c : Bool) → a || (c || (b || false)) ≡ (a || c) || b
      turned true b c = refl
      turned false b true = refl
      turned false true false = refl
      turned false false false = refl

  pub past_other : (w.1.kind ≡ 14 → ⊥) → (w.1.kind ≡ 10 → ⊥) → marks (record { through = through; exact = exact }) p.1.ts ≡ covered (front ++ w ∷ []) p
  past_other not_family not_version =
      so_far ∙ bare (covered front p)
      ∙ (λ i. covered front p || ((sym (false_from_ne_true (w.1.kind == 14) (λ e. not_family (eqb-true w.1.kind 14 e))) i && nat_le p.1.ts w.1.ts) || (sym (false_from_ne_true (w.1.kind == 10) (λ e. not_version (eqb-true w.1.kind 10 e))) i && w.1.ts == p.1.ts)))
      ∙ sym covered_more
    where
      bare : (b : Bool) → b ≡ b || (false || false)
      bare true = refl
      bare false = refl

-- ---- where a family ends

none_covers : (cells : List NumberedCell) (p : NumberedCell) → ((e : NumberedCell) → Contains cells e → in_family e.1 p.1 ≡ true → ⊥) → covered cells p ≡ false
none_covers cells p none = false_from_ne_true (covered cells p) (λ e.
    let d = some_there (λ d. by_delete_family d.1 p.1 || by_delete_family_version d.1 p.1) cells e in
    elim (or_cases (by_delete_family d.0.1 p.1) (by_delete_family_version d.0.1 p.1) d.2) [
      | inl a ↦ none d.0 d.1 (and_parts (in_family d.0.1 p.1) _ (and_parts (d.0.1.kind == 14) _ a).1).0
      | inr b ↦ none d.0 d.1 (and_parts (in_family d.0.1 p.1) _ (and_parts (d.0.1.kind == 10) _ b).1).0
    ])

without : (front rest : List NumberedCell) (p : NumberedCell) → covered rest p ≡ false → covered (front ++ rest) p ≡ covered front p
without front rest p none = list_any-append (λ d. by_delete_family d.1 p.1 || by_delete_family_version d.1 p.1) front rest ∙ ap (λ b. covered front p || b) none ∙ bare (covered front p)
  where
    bare : (b : Bool) → b || false ≡ b
    bare true = refl
    bare false = refl

-- the first cell of the list, as an index reads it
first_is : (cells after : List NumberedCell) (x f : NumberedCell) → cells ≡ x ∷ after → f ≡ get_or cells 0 f → f ≡ x
first_is cells after x f split is = at_seam cells [] after x f 0 split refl is

in_its_family : (cells after : List NumberedCell) (x p f w : NumberedCell) → cells ≡ x ∷ after → f ≡ get_or cells 0 f → p.1.row ≡ x.1.row → p.1.family ≡ x.1.family
    → in_family w.1 f.1 ≡ true → in_family w.1 p.1 ≡ true
in_its_family cells after x p f w split is row family of =
    let first = first_is cells after x f split is in
    (λ i. same w.1.row ((row ∙ sym (ap (λ (z : NumberedCell). z.1.row) first)) i) && same w.1.family ((family ∙ sym (ap (λ (z : NumberedCell). z.1.family) first)) i)) ∙ of

-- the next cell is of the first one's family
module _ (cells : List NumberedCell) (place : ℕ) (f w : NumberedCell) (within : place < length cells) (f_is : f ≡ get_or cells 0 f) (w_is : w ≡ get_or cells place w)
    (of : in_family w.1 f.1 ≡ true) (through : Option ℕ) (exact : List ℕ) where
  abbrev pub IsSoFar : ℕ → Option ℕ → List ℕ → Type 0
  IsSoFar i through exact = (after : List NumberedCell) (x p : NumberedCell) → cells ≡ x ∷ after → p.1.row ≡ x.1.row → p.1.family ≡ x.1.family
      → marks (record { through = through; exact = exact }) p.1.ts ≡ covered (take i cells) p

  pub step_family : (t : ℕ) → IsSoFar place through exact → w.1.kind ≡ 14 → ((q : ℕ) → reaches (Some t) q ≡ (reaches through q || nat_le q w.1.ts)) → IsSoFar (place + 1) (Some t) exact
  step_family t met kind later after x p split row family =
      past_family (take place cells) w p (in_its_family cells after x p f w split f_is row family of) through exact (met after x p split row family) t kind later
      ∙ ap (λ l. covered l p) (next_front cells place w within w_is)

  pub step_version : IsSoFar place through exact → w.1.kind ≡ 10 → IsSoFar (place + 1) through (exact ++ w.1.ts ∷ [])
  step_version met kind after x p split row family =
      past_version (take place cells) w p (in_its_family cells after x p f w split f_is row family of) through exact (met after x p split row family) kind
      ∙ ap (λ l. covered l p) (next_front cells place w within w_is)

  pub step_other : IsSoFar place through exact → (w.1.kind ≡ 14 → ⊥) → (w.1.kind ≡ 10 → ⊥) → IsSoFar (place + 1) through exact
  step_other met not_family not_version after x p split row family =
      past_other (take place cells) w p (in_its_family cells after x p f w split f_is row family of) through exact (met after x p split row family) not_family not_version
      ∙ ap (λ l. covered l p) (next_front cells place w within w_is)

-- the next cell is of another family: no cell from it on is of the first one's
pub family_ended : (cells after : List NumberedCell) (place : ℕ) (x p f w : NumberedCell) → IsRising cells → place < length cells → f ≡ get_or cells 0 f → w ≡ get_or cells place w
    → in_family w.1 f.1 ≡ false → cells ≡ x ∷ after → p.1.row ≡ x.1.row → p.1.family ≡ x.1.family → covered (take place cells) p ≡ covered cells p
family_ended cells after place x p f w rises lt f_is w_is apart split row family =
    sym (without (take place cells) (drop place cells) p (none_covers (drop place cells) p none)) ∙ ap (λ l. covered l p) (take-append-drop place cells)
  where
    rest_is : drop place cells ≡ w ∷ drop (suc place) cells
    rest_is = drop-cons cells place w lt ∙ ap (λ z. z ∷ drop (suc place) cells) (sym w_is)

    whole : cells ≡ take place cells ++ w ∷ drop (suc place) cells
    whole = parted cells place w lt w_is

    apart_x : in_family w.1 x.1 ≡ true → ⊥
    apart_x e = true≢false (sym (subst (λ (z : NumberedCell). in_family w.1 z.1 ≡ true) (sym (first_is cells after x f split f_is)) e) ∙ apart)

    back : (a b : NumberedCell) → IsFamily a b → IsFamily b a
    back a b e = record { row = sym e.row; family = sym e.family }

    none : (e : NumberedCell) → Contains (drop place cells) e → in_family e.1 p.1 ≡ true → ⊥
    none e is same_p =
        let of_p = family_from e p same_p in
        let of_x : IsFamily e x = record { row = of_p.row ∙ row; family = of_p.family ∙ family } in
        elim (Contains-append_cases (w ∷ []) (drop (suc place) cells) e (subst (λ l. Contains l e) rest_is is)) as (λ _. ⊥) [
          | inl here ↦ apart_x (subst (λ (z : NumberedCell). in_family z.1 x.1 ≡ true) (sym (one_there w e here)) (to_family e x of_x))
          | inr later ↦ elim (Contains-append_cases (x ∷ []) after w (subst (λ l. Contains l w) split (place, lt, sym w_is))) as (λ _. ⊥) [
            | inl first ↦ apart_x (subst (λ (z : NumberedCell). in_family z.1 x.1 ≡ true) (one_there x w first) (to_family x x (record { row = refl; family = refl })))
            | inr behind ↦ apart_x (to_family w x (back x w (family_between x w e
                (above [] after x w (subst IsRising split rises) behind)
                (above (take place cells) (drop (suc place) cells) w e (subst IsRising whole rises) later)
                (back e x of_x))))
          ]
        ]

-- ---- at a place

rising_behind : (front rest : List NumberedCell) → IsRising (front ++ rest) → IsRising rest
rising_behind [] rest rises = rises
rising_behind (x ∷ front) rest rises = rising_behind front rest (second_part _ _ rises)
  where
    second_part : (a b : Bool) → T (a && b) → T b
    second_part true b p = p
    second_part false b p = absurd p

-- a slice from a place on
from_place : (cells before rest : List NumberedCell) (place : ℕ) → cells ≡ before ++ rest → length before ≡ place → take (length cells - place) (drop place cells) ≡ rest
from_place cells before rest place split here =
    let dropped : drop place cells ≡ rest = ap (drop place) split ∙ drop_at before rest place here in
    let long : length cells ≡ length before + length rest = ap length split ∙ length-append before rest in
    ap (take (length cells - place)) dropped ∙ take_all (length cells - place) rest (omega (arith, long, here))

pub rest_rises : (cells : List NumberedCell) (place : ℕ) → place < length cells → IsRising cells → IsRising (take (length cells - place) (drop place cells))
rest_rises cells place lt rises =
    let whole = sym (take-append-drop place cells) in
    subst IsRising (sym (from_place cells (take place cells) (drop place cells) place whole (length-take-le place cells (omega (arith, lt)))))
    (rising_behind (take place cells) (drop place cells) (subst IsRising whole rises))

module _ (cells : List NumberedCell) (place : ℕ) (y z : NumberedCell) (rises : IsRising cells) (later : place ≡ 0 → ⊥)
    (y_is : y ≡ get_or cells (place - 1) y) (z_is : z ≡ get_or cells place z) where
  ends : (before after : List NumberedCell) (x : NumberedCell) → cells ≡ before ++ x ∷ after → length before ≡ place → IsEnding cells before after x y
  ends before after x split here = before_seam cells before after x y place (place - 1) split here (omega (arith, later)) y_is

  pub same_family : (m : Marked) → in_family y.1 z.1 ≡ true → IsMarkedUpTo cells place m → IsMarkedAt cells place m
  same_family m of met before after x p split here row family =
      let end = ends before after x split here in
      let f = family_from y x (subst (λ (w : NumberedCell). in_family y.1 w.1 ≡ true) (at_seam cells before after x z place split here z_is) of) in
      met (place - 1) (omega (arith, later)) end.front (x ∷ after) y p end.split (omega (arith, end.long, here)) (row ∙ sym f.row) (family ∙ sym f.family)

  pub other_family : (m : Marked) → in_family y.1 z.1 ≡ false → IsMarkedAt (take (length cells - place) (drop place cells)) 0 m → IsMarkedAt cells place m
  other_family m apart met before after x p split here row family =
      let end = ends before after x split here in
      let rest = from_place cells before (x ∷ after) place split here in
      met [] after x p rest refl row family ∙ ap (λ l. covered l p) rest ∙ sym (behind before (x ∷ after) (none_covers before p (none end))) ∙ ap (λ l. covered l p) (sym split)
    where
      behind : (front rest : List NumberedCell) → covered front p ≡ false → covered (front ++ rest) p ≡ covered rest p
      behind front rest none = list_any-append (λ d. by_delete_family d.1 p.1 || by_delete_family_version d.1 p.1) front rest ∙ ap (λ b. b || covered rest p) none

      none : IsEnding cells before after x y → (e : NumberedCell) → Contains before e → in_family e.1 p.1 ≡ true → ⊥
      none end e is same_p =
          let of_p = family_from e p same_p in
          let of_x : IsFamily e x = record { row = of_p.row ∙ row; family = of_p.family ∙ family } in
          let up = subst IsRising end.split rises in
          let apart_x : in_family y.1 x.1 ≡ true → ⊥ = λ t. true≢false (sym t ∙ subst (λ (w : NumberedCell). in_family y.1 w.1 ≡ false) (at_seam cells before after x z place split here z_is) apart) in
          elim (Contains-append_cases end.front (y ∷ []) e (subst (λ l. Contains l e) end.before_is is)) as (λ _. ⊥) [
            | inl early ↦ (let between = family_between e y x (below end.front (x ∷ after) y e up early) (above end.front (x ∷ after) y x up (0, omega arith, refl)) of_x in
                apart_x (to_family y x (record { row = sym between.row ∙ of_x.row; family = sym between.family ∙ of_x.family })))
            | inr last ↦ apart_x (subst (λ (w : NumberedCell). in_family w.1 x.1 ≡ true) (sym (one_there y e last)) (to_family e x of_x))
          ]

-- ---- among the timestamps that are masked alone

pub found : (xs : List ℕ) (ts : ℕ) (r : Result ℕ ℕ) → IsBinarySearchResult (λ y. nat_cmp y ts) xs r → IsNonDecreasing xs → is_ok r ≡ list_any (λ t. t == ts) xs
found xs ts (Ok i) position up =
    let s = searched xs ts (Ok i) position (λ a b le lt. up a b 0 le lt) in
    sym (list_any_at (λ t. t == ts) xs i 0 s.0 (eq-eqb (get_or xs i 0) ts s.1))
found xs ts (Err i) position up =
    let s = searched xs ts (Err i) position (λ a b le lt. up a b 0 le lt) in
    sym (false_from_ne_true (list_any (λ t. t == ts) xs) (λ e.
    let d = some_there (λ t. t == ts) xs e in
    let here : get_or xs d.1.0 0 ≡ ts = get_or_default xs d.1.0 0 d.0 d.1.1 ∙ d.1.2 ∙ eqb-true d.0 ts d.2 in
    elim (cases_lt d.1.0 i) as (λ _. ⊥) [
      | inl early ↦ omega (arith, s.1 d.1.0 early, here)
      | inr late ↦ omega (arith, s.2 d.1.0 late d.1.1, here)
    ]))

-- a sort leaves what is masked
pub sorted_alike : (through : Option ℕ) (xs ys : List ℕ) (ts : ℕ) → IsPermutation xs ys → marks (record { through = through; exact = ys }) ts ≡ marks (record { through = through; exact = xs }) ts
sorted_alike through xs ys ts same = ap (λ b. reaches through ts || b) (sym (list_any-IsPermutation (λ t. t == ts) xs ys same))
