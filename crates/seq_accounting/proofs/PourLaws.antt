-- Marks noted, or poured, one after the other.
use Rattle.std.proofs.Common.{◌≡◌, ◌≢◌, ◌<◌, inl, inr, ℕ, Bool, true, false, cond, ◌&&◌, ◌||◌, eqb, List, [], ◌∷◌, ◌++◌, length, Option, Some, refl, sym, ap, subst, ◌∙◌, arith, length-append}
use Rattle.std.proofs.lemmas.Bool.{cases_Bool}
use Rattle.seq_accounting.specs.Marks.{FamilyMark, IsPut, AreGiven, ArePoured, is_same, is_of, first_given, number_of, has_family, families_in}
use Rattle.std.specs.Global.{Box}
use Rattle.seq_accounting.specs.Branch.{Branch, marks_of, linked}
use Rattle.seq_accounting.proofs.KeyLaws.{of_alike, of_decides, first_zero, first_none, first_some, first_assoc, number_append, has_append}
use Rattle.seq_accounting.proofs.TreeLaws.{mark}

pub given_none : (old : List FamilyMark) (region n : ℕ) → AreGiven old old region n []
given_none old region n q f = by (eqb region q)
  where
    by : (b : Bool) → number_of old q f ≡ cond (b && false) n (number_of old q f)
    by true = refl
    by false = refl

pub poured_none : (old : List FamilyMark) → ArePoured old old []
poured_none old q f = sym (first_zero (number_of old q f))

-- one, and those left and right of it
pub given_parts : (a b c d : List FamilyMark) (region n r : ℕ) (f : List ℕ) (m : ℕ) (left right : List FamilyMark)
    → IsPut a b region f n → AreGiven b c region n left → AreGiven c d region n right → AreGiven a d region n (mark r f m ∷ left ++ right)
given_parts a b c d region n r f m left right put one two q g =
    two q g
    ∙ ap (cond (eqb region q && has_family (families_in right) g) n) (one q g ∙ ap (cond (eqb region q && has_family (families_in left) g) n) (put.numbers q g))
    ∙ join (eqb region q) (is_same f g) (has_family (families_in left) g) (has_family (families_in right) g) (number_of a q g)
    ∙ sym (ap (λ k. cond (eqb region q && (is_same f g || k)) n (number_of a q g)) (has_append left right g))
  where
    join : (c x y z : Bool) (k : ℕ) → cond (c && z) n (cond (c && y) n (cond (c && x) n k)) ≡ cond (c && (x || (y || z))) n k
    join false x y z k = refl
    join true x y true k = all x y
      where
        all : (x y : Bool) → n ≡ cond (x || (y || true)) n k
        all true y = refl
        all false true = refl
        all false false = refl
    join true x true false k = all x
      where
        all : (x : Bool) → n ≡ cond (x || true) n k
        all true = refl
        all false = refl
    join true true false false k = refl
    join true false false false k = refl

-- a mark put in where there is none
pub poured_put : (a b : List FamilyMark) (r : ℕ) (f : List ℕ) (m : ℕ) → number_of a r f ≡ 0 → IsPut a b r f m → ArePoured a b (mark r f m ∷ [])
poured_put a b r f m none put q g = put.numbers q g ∙ elim (cases_Bool (is_of r f q g)) as (λ _. cond (is_of r f q g) m (number_of a q g) ≡ first_given (number_of a q g) (first_given (cond (is_of r f q g) m 0) 0)) [
  | inl is ↦
      let e = (of_decides r f q g).0 is in
      let zero : number_of a q g ≡ 0 = sym (ap (λ k. number_of a k f) e.0 ∙ ap (number_of a q) e.1) ∙ none in
      ap (λ k. cond k m (number_of a q g)) is ∙ sym (first_none (number_of a q g) (first_given (cond (is_of r f q g) m 0) 0) zero ∙ ap (λ k. first_given (cond k m 0) 0) is ∙ first_zero m)
  | inr other ↦ ap (λ k. cond k m (number_of a q g)) other ∙ sym (ap (λ k. first_given (number_of a q g) (first_given (cond k m 0) 0)) other ∙ first_zero (number_of a q g))
]

-- or left out where there is one
pub poured_out : (a : List FamilyMark) (r : ℕ) (f : List ℕ) (m : ℕ) → number_of a r f ≢ 0 → ArePoured a a (mark r f m ∷ [])
poured_out a r f m some q g = elim (cases_Bool (is_of r f q g)) as (λ _. number_of a q g ≡ first_given (number_of a q g) (first_given (cond (is_of r f q g) m 0) 0)) [
  | inl is ↦
      let e = (of_decides r f q g).0 is in
      sym (first_some (number_of a q g) (first_given (cond (is_of r f q g) m 0) 0) (λ z. some (ap (λ k. number_of a k f) e.0 ∙ ap (number_of a q) e.1 ∙ z)))
  | inr other ↦ sym (ap (λ k. first_given (number_of a q g) (first_given (cond k m 0) 0)) other ∙ first_zero (number_of a q g))
]

pub poured_parts : (a b c d : List FamilyMark) (r : ℕ) (f : List ℕ) (m : ℕ) (left right : List FamilyMark)
    → ArePoured a b (mark r f m ∷ []) → ArePoured b c left → ArePoured c d right → ArePoured a d (mark r f m ∷ left ++ right)
poured_parts a b c d r f m left right top one two q g =
    let own = cond (is_of r f q g) m 0 in
    two q g
    ∙ ap (λ k. first_given k (number_of right q g)) (one q g ∙ ap (λ k. first_given k (number_of left q g)) (top q g ∙ ap (first_given (number_of a q g)) (first_zero own)))
    ∙ ap (λ k. first_given k (number_of right q g)) (first_assoc (number_of a q g) own (number_of left q g))
    ∙ first_assoc (number_of a q g) (first_given own (number_of left q g)) (number_of right q g)
    ∙ ap (first_given (number_of a q g)) (first_assoc own (number_of left q g) (number_of right q g) ∙ ap (first_given own) (sym (number_append left right q g)))

-- ---- the same of what stands at a link

-- the recursion goes left and right, to fewer
pub falls_left : (link : Option (Box Branch)) (top : Box Branch) (left right : List FamilyMark) → link ≡ Some top → left ++ right ≡ top.value.below → length left < length (linked link)
falls_left link top left right is below =
    let few : length left < length (linked (Some top)) = omega (arith, ap length below, length-append left right) in
    subst (λ (l : Option (Box Branch)). length left < length (linked l)) (sym is) few

pub falls_right : (link : Option (Box Branch)) (top : Box Branch) (left right : List FamilyMark) → link ≡ Some top → left ++ right ≡ top.value.below → length right < length (linked link)
falls_right link top left right is below =
    let few : length right < length (linked (Some top)) = omega (arith, ap length below, length-append left right) in
    subst (λ (l : Option (Box Branch)). length right < length (linked l)) (sym is) few

pub given_link : (a b c d : List FamilyMark) (region n : ℕ) (old m : Branch) (left right : List FamilyMark) → m ≡ record { region = region; family = old.family; number = n; below = [] } → left ++ right ≡ old.below
    → IsPut a b m.region m.family m.number → AreGiven b c region n left → AreGiven c d region n right → AreGiven a d region n (marks_of old)
given_link a b c d region n old m left right is below put one two =
    subst (λ l. AreGiven a d region n (mark old.region old.family old.number ∷ l)) below
    (given_parts a b c d region n old.region old.family old.number left right (subst (λ (x : Branch). IsPut a b x.region x.family x.number) is put) one two)

pub poured_link : (a b c d : List FamilyMark) (old m : Branch) (left right : List FamilyMark) → m ≡ record { region = old.region; family = old.family; number = old.number; below = [] } → left ++ right ≡ old.below
    → ArePoured a b (marks_of m) → ArePoured b c left → ArePoured c d right → ArePoured a d (marks_of old)
poured_link a b c d old m left right is below top one two =
    subst (λ l. ArePoured a d (mark old.region old.family old.number ∷ l)) below
    (poured_parts a b c d old.region old.family old.number left right (subst (λ (x : Branch). ArePoured a b (marks_of x)) is top) one two)

pub put_poured : (a b : List FamilyMark) (m : Branch) → m.below ≡ [] → number_of a m.region m.family ≡ 0 → IsPut a b m.region m.family m.number → ArePoured a b (marks_of m)
put_poured a b m alone none put = subst (λ l. ArePoured a b (mark m.region m.family m.number ∷ l)) (sym alone) (poured_put a b m.region m.family m.number none put)

pub out_poured : (a : List FamilyMark) (m : Branch) → m.below ≡ [] → number_of a m.region m.family ≢ 0 → ArePoured a a (marks_of m)
out_poured a m alone some = subst (λ l. ArePoured a a (mark m.region m.family m.number ∷ l)) (sym alone) (poured_out a m.region m.family m.number some)
