-- Numbers by family and region.
use Rattle.std.proofs.Common.{◌≡◌, ◌≢◌, inl, inr, ℕ, ◌≤◌, Bool, true, false, cond, not, ◌&&◌, ◌||◌, eqb, List, [], ◌∷◌, ◌++◌, map, refl, sym, ap, subst, ◌∙◌, arith}
use Rattle.std.specs.Bool.{Decides}
use Rattle.std.specs.Cmp.Lexicographic.{bytes_decides}
use Rattle.std.specs.List.{list_any}
use Rattle.std.proofs.lemmas.Bool.{and_parts, and_from, or_left, or_right, eqb-true, eq-eqb, true≢false, cases_Bool, cases_eq}
use Rattle.std.proofs.lemmas.Bool.Decides.{Decides-and, Decides-eqb, nat_tests}
use Rattle.std.proofs.lemmas.List.Folds.{list_any-append}
use Rattle.seq_accounting.specs.Marks.{FamilyMark, is_same, is_of, first_given, number_of, has_family, families_in, all_keys}

pub of_decides : (r : ℕ) (f : List ℕ) (q : ℕ) (g : List ℕ) → Decides (is_of r f q g) ((r ≡ q) × (f ≡ g))
of_decides r f q g = Decides-and (eqb r q) (is_same f g) (Decides-eqb r q) (bytes_decides f g)

pub of_self : (r : ℕ) (f : List ℕ) → is_of r f r f ≡ true
of_self r f = (of_decides r f r f).1 (refl, refl)

-- a test answers alike for what is the same
pub of_alike : (p : ℕ → List ℕ → Bool) (r : ℕ) (f : List ℕ) (q : ℕ) (g : List ℕ) → is_of r f q g ≡ true → p r f ≡ p q g
of_alike p r f q g is = let e = (of_decides r f q g).0 is in ap (λ x. p x f) e.0 ∙ ap (p q) e.1

-- two tests of the same thing
pub of_other : (p : ℕ → List ℕ → Bool) (r : ℕ) (f : List ℕ) (q : ℕ) (g : List ℕ) (b : Bool) → p r f ≡ b → p q g ≡ not b → is_of r f q g ≡ false
of_other p r f q g b here there = by (is_of r f q g) refl
  where
    apart : (b : Bool) → b ≡ not b → ⊥
    apart true e = true≢false e
    apart false e = true≢false (sym e)

    by : (t : Bool) → is_of r f q g ≡ t → t ≡ false
    by true e = absurd (apart b (sym here ∙ of_alike p r f q g e ∙ there))
    by false e = refl

-- ---- the first of two numbers

pub first_zero : (n : ℕ) → first_given n 0 ≡ n
first_zero n = by (eqb n 0) refl
  where
    by : (b : Bool) → eqb n 0 ≡ b → cond b 0 n ≡ n
    by true e = sym (eqb-true n 0 e)
    by false e = refl

pub first_none : (n m : ℕ) → n ≡ 0 → first_given n m ≡ m
first_none n m e = ap (λ k. first_given k m) e

pub first_some : (n m : ℕ) → n ≢ 0 → first_given n m ≡ n
first_some n m ne = by (eqb n 0) refl
  where
    by : (b : Bool) → eqb n 0 ≡ b → cond b m n ≡ n
    by true e = absurd (ne (eqb-true n 0 e))
    by false e = refl

pub first_assoc : (a b c : ℕ) → first_given (first_given a b) c ≡ first_given a (first_given b c)
first_assoc a b c = elim (cases_eq a 0) as (λ _. first_given (first_given a b) c ≡ first_given a (first_given b c)) [
  | inl z ↦ ap (λ k. first_given k c) (first_none a b z) ∙ sym (first_none a (first_given b c) z)
  | inr ne ↦ ap (λ k. first_given k c) (first_some a b ne) ∙ first_some a c ne ∙ sym (first_some a (first_given b c) ne)
]

pub first_least : (n m k : ℕ) → n ≤ k → m ≤ k → first_given n m ≤ k
first_least n m k a b = by (eqb n 0)
  where
    by : (t : Bool) → cond t m n ≤ k
    by true = b
    by false = a

-- ---- marks one after the other

pub number_append : (xs ys : List FamilyMark) (q : ℕ) (g : List ℕ) → number_of (xs ++ ys) q g ≡ first_given (number_of xs q g) (number_of ys q g)
number_append [] ys q g = refl
number_append (m ∷ xs) ys q g =
    ap (λ k. first_given (cond (is_of m.region m.family q g) m.number 0) k) (number_append xs ys q g)
    ∙ sym (first_assoc (cond (is_of m.region m.family q g) m.number 0) (number_of xs q g) (number_of ys q g))

pub all_append : (p : ℕ → List ℕ → Bool) (xs ys : List FamilyMark) → all_keys p (xs ++ ys) ≡ (all_keys p xs && all_keys p ys)
all_append p [] ys = refl
all_append p (m ∷ xs) ys = ap (λ b. p m.region m.family && b) (all_append p xs ys) ∙ assoc (p m.region m.family) (all_keys p xs) (all_keys p ys)
  where
    assoc : (a b c : Bool) → (a && (b && c)) ≡ ((a && b) && c)
    assoc true b c = refl
    assoc false b c = refl

pub has_append : (xs ys : List FamilyMark) (g : List ℕ) → has_family (families_in (xs ++ ys)) g ≡ (has_family (families_in xs) g || has_family (families_in ys) g)
has_append [] ys g = refl
has_append (m ∷ xs) ys g = ap (λ b. is_same m.family g || b) (has_append xs ys g) ∙ assoc (is_same m.family g) (has_family (families_in xs) g) (has_family (families_in ys) g)
  where
    assoc : (a b c : Bool) → (a || (b || c)) ≡ ((a || b) || c)
    assoc true b c = refl
    assoc false b c = refl

-- where no mark is of a family of a region it has no number
pub none_of : (p : ℕ → List ℕ → Bool) (ms : List FamilyMark) (q : ℕ) (g : List ℕ) → all_keys p ms ≡ true → p q g ≡ false → number_of ms q g ≡ 0
none_of p [] q g all miss = refl
none_of p (m ∷ ms) q g all miss =
    let parts = and_parts (p m.region m.family) (all_keys p ms) all in
    ap (λ b. first_given (cond b m.number 0) (number_of ms q g)) (of_other p m.region m.family q g true parts.0 miss) ∙ none_of p ms q g parts.1 miss

-- a family with a number has a mark
pub has_of_number : (ms : List FamilyMark) (q : ℕ) (g : List ℕ) → number_of ms q g ≢ 0 → has_family (families_in ms) g ≡ true
has_of_number [] q g ne = absurd (ne refl)
has_of_number (m ∷ ms) q g ne = elim (cases_Bool (is_same m.family g)) as (λ _. (is_same m.family g || has_family (families_in ms) g) ≡ true) [
  | inl is ↦ or_left (is_same m.family g) (has_family (families_in ms) g) is
  | inr miss ↦ or_right (is_same m.family g) (has_family (families_in ms) g) (has_of_number ms q g (λ z. ne (
      ap (λ b. first_given (cond b m.number 0) (number_of ms q g)) (none (eqb m.region q) (is_same m.family g) miss) ∙ z)))
]
  where
    none : (a b : Bool) → b ≡ false → (a && b) ≡ false
    none true b e = e
    none false b e = refl
