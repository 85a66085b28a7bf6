-- Families of cells, taken one after the other.
use Rattle.std.proofs.Common.{◌≡◌, ◌≢◌, inl, inr, ℕ, ◌+◌, ◌<◌, Bool, true, false, ◌||◌, List, [], ◌∷◌, ◌++◌, length, map, take, get_or, refl, sym, ap, subst, ◌∙◌}
use Rattle.std.specs.Cmp.Lexicographic.{bytes_decides}
use Rattle.std.proofs.lemmas.Bool.{cases_Bool}
use Rattle.std.proofs.lemmas.Grind.{take_at_read}
use Rattle.cell_model.specs.Cell.{Cell}
use Rattle.seq_accounting.specs.Marks.{FamilyMark, is_same, number_of, has_family, families_in, IsAdded}
use Rattle.seq_accounting.proofs.KeyLaws.{has_of_number}

abbrev pub families : List Cell → List (List ℕ)
families cells = map (λ (c : Cell). c.family) cells

-- a family that has a number is there already
pub added_before : (ms ns : List FamilyMark) (r : ℕ) (f : List ℕ) → number_of ms r f ≢ 0 → ((g : List ℕ) → has_family (families_in ns) g ≡ has_family (families_in ms) g) → IsAdded ns ns f
added_before ms ns r f some same g = elim (cases_Bool (is_same f g)) as (λ _. has_family (families_in ns) g ≡ (is_same f g || has_family (families_in ns) g)) [
  | inl is ↦ same g ∙ ap (has_family (families_in ms)) (sym ((bytes_decides f g).0 is)) ∙ has_of_number ms r f some ∙ sym (ap (λ b. b || has_family (families_in ns) g) is)
  | inr other ↦ sym (ap (λ b. b || has_family (families_in ns) g) other)
]

-- the families of the first so many cells, and of one more
pub families_more : (cells : List Cell) (i : ℕ) (cell : Cell) (old new : List FamilyMark) → i < length cells → get_or cells i cell ≡ cell → IsAdded old new cell.family
    → ((f : List ℕ) → has_family (families_in old) f ≡ has_family (families (take i cells)) f) → (f : List ℕ) → has_family (families_in new) f ≡ has_family (families (take (i + 1) cells)) f
families_more cells i cell old new within is added before f =
    added f ∙ ap (λ b. is_same cell.family f || b) (before f)
    ∙ sym (ap (λ l. has_family (families l) f) ((take_at_read cells i cell within).1 ∙ ap (λ c. take i cells ++ c ∷ []) is) ∙ pushed (take i cells))
  where
    or_swap : (a b c : Bool) → (a || (b || c)) ≡ (b || (a || c))
    or_swap true true c = refl
    or_swap true false c = refl
    or_swap false true c = refl
    or_swap false false c = refl

    pushed : (xs : List Cell) → has_family (families (xs ++ cell ∷ [])) f ≡ (is_same cell.family f || has_family (families xs) f)
    pushed [] = refl
    pushed (x ∷ xs) = ap (λ b. is_same x.family f || b) (pushed xs) ∙ or_swap (is_same x.family f) (is_same cell.family f) (has_family (families xs) f)
