-- A number for each of some families of regions, as a list of marks.
use Rattle.std.specs.Prelude.{◌≡◌, ℕ, Bool, true, false, ◌&&◌, ◌||◌, ◌==◌, nat_eq, if◌then◌else◌, map, List, [], ◌∷◌}
use Rattle.std.specs.List.{list_any}
use Rattle.std.specs.Cmp.Lexicographic.{pointwise}

-- the number of a family of a region
pub record FamilyMark : Type 0 where
  pub region : ℕ
  pub family : List ℕ
  pub number : ℕ

abbrev pub is_same : List ℕ → List ℕ → Bool
is_same f g = pointwise nat_eq f g

-- a family of a region is that one
abbrev pub is_of : ℕ → List ℕ → ℕ → List ℕ → Bool
is_of r f q g = r == q && is_same f g

-- the number, or the other one where there is none
abbrev pub first_given : ℕ → ℕ → ℕ
first_given n m = if n == 0 then m else n

-- the number of a family of a region, 0 where there is none
abbrev pub number_of : List FamilyMark → ℕ → List ℕ → ℕ
number_of [] r f = 0
number_of (m ∷ ms) r f = first_given (if is_of m.region m.family r f then m.number else 0) (number_of ms r f)

-- whether a family is one of these
abbrev pub has_family : List (List ℕ) → List ℕ → Bool
has_family fs f = list_any (λ g. is_same g f) fs

-- the families that have a mark
abbrev pub families_in : List FamilyMark → List (List ℕ)
families_in ms = map (λ m. m.family) ms

-- each mark is of a family of a region that passes the test
abbrev pub all_keys : (ℕ → List ℕ → Bool) → List FamilyMark → Bool
all_keys p [] = true
all_keys p (m ∷ ms) = p m.region m.family && all_keys p ms

-- the same lists but for one mark, which has this number now
pub record IsPut (old new : List FamilyMark) (r : ℕ) (f : List ℕ) (n : ℕ) : Type 0 where
  pub numbers : (q : ℕ) (g : List ℕ) → number_of new q g ≡ (if is_of r f q g then n else number_of old q g)
  pub families : (g : List ℕ) → has_family (families_in new) g ≡ (is_same f g || has_family (families_in old) g)
  pub keys : (p : ℕ → List ℕ → Bool) → all_keys p old ≡ true → p r f ≡ true → all_keys p new ≡ true

-- each of these families has this number in this region now
abbrev pub AreGiven : List FamilyMark → List FamilyMark → ℕ → ℕ → List FamilyMark → Type 0
AreGiven old new region n ms = (q : ℕ) (f : List ℕ)
    → number_of new q f ≡ (if region == q && has_family (families_in ms) f then n else number_of old q f)

-- each of these marks was put in whose family of a region had no number
abbrev pub ArePoured : List FamilyMark → List FamilyMark → List FamilyMark → Type 0
ArePoured old new ms = (q : ℕ) (f : List ℕ) → number_of new q f ≡ first_given (number_of old q f) (number_of ms q f)

-- this family has a mark now, and the others as before
abbrev pub IsAdded : List FamilyMark → List FamilyMark → List ℕ → Type 0
IsAdded old new f = (g : List ℕ) → has_family (families_in new) g ≡ (is_same f g || has_family (families_in old) g)
