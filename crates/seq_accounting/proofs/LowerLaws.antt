-- What the test of flushed files tells.
use Rattle.std.proofs.Common.{◌≡◌, ◌↔◌, inl, inr, ℕ, ◌≤◌, Bool, true, false, not, leb, ◌&&◌, List, [], ◌∷◌, ◌++◌, IsTrue, refl, sym, ap, ◌∙◌, subst, arith}
use Rattle.std.proofs.lemmas.Bool.{cases_Bool, leb-true, le-leb, true≢false}
use Rattle.seq_accounting.specs.Marks.{FamilyMark, is_of, number_of}
use Rattle.seq_accounting.specs.Branch.{Branch, IsParted, bit_of, is_left, is_right, marks_of}
use Rattle.seq_accounting.specs.Accounts.{AreLowerBy, are_lower, flushed_by}
use Rattle.seq_accounting.proofs.KeyLaws.{of_self, of_decides, none_of}
use Rattle.seq_accounting.proofs.TreeLaws.{mark, Place, Top, Low, High, place_at, at_top, at_left, at_right}

pub lower_append : (whole : List ℕ) (flushed : List (List FamilyMark)) (xs ys : List FamilyMark) → are_lower whole flushed (xs ++ ys) ≡ (are_lower whole flushed xs && are_lower whole flushed ys)
lower_append whole flushed [] ys = refl
lower_append whole flushed (m ∷ xs) ys =
    ap (λ b. leb m.number (flushed_by whole flushed m.region m.family) && b) (lower_append whole flushed xs ys)
    ∙ assoc (leb m.number (flushed_by whole flushed m.region m.family)) (are_lower whole flushed xs) (are_lower whole flushed ys)
  where
    assoc : (a b c : Bool) → (a && (b && c)) ≡ ((a && b) && c)
    assoc true b c = refl
    assoc false b c = refl

-- what is lower of a tree, by its mark and what stands left and right
pub record ArePartsLower (whole : List ℕ) (flushed : List (List FamilyMark)) (r : ℕ) (f : List ℕ) (n : ℕ) (ls rs : List FamilyMark) : Type 0 where
  pub own : n ≤ flushed_by whole flushed r f
  pub left : AreLowerBy whole flushed ls
  pub right : AreLowerBy whole flushed rs

pub parts_of_lower : (whole : List ℕ) (flushed : List (List FamilyMark)) (r : ℕ) (f : List ℕ) (n bit : ℕ) (left right : List FamilyMark) → IsParted r f bit left right
    → AreLowerBy whole flushed (mark r f n ∷ left ++ right) → ArePartsLower whole flushed r f n left right
parts_of_lower whole flushed r f n bit left right parted lower = record {
  own = subst (λ k. k ≤ flushed_by whole flushed r f) (at_top r f n bit left right r f parted (of_self r f)) (lower r f);
  left = λ q g. elim (cases_Bool (is_left r f bit q g)) as (λ _. number_of left q g ≤ flushed_by whole flushed q g) [
    | inl is ↦ let p = parts q g is in subst (λ k. k ≤ flushed_by whole flushed q g) (at_left r f n bit left right q g parted p.0 p.1) (lower q g)
    | inr miss ↦ let z = none_of (is_left r f bit) left q g parted.left miss in omega (arith, z)
  ];
  right = λ q g. elim (cases_Bool (is_right r f bit q g)) as (λ _. number_of right q g ≤ flushed_by whole flushed q g) [
    | inl is ↦ let p = parts2 q g is in subst (λ k. k ≤ flushed_by whole flushed q g) (at_right r f n bit left right q g parted p.0 p.1) (lower q g)
    | inr miss ↦ let z = none_of (is_right r f bit) right q g parted.right miss in omega (arith, z)
  ];
}
  where
    halves : (a b : Bool) → (not a && b) ≡ true → (a ≡ false) × (b ≡ true)
    halves true b e = absurd (cc (e))
    halves false b e = (refl, e)

    negated : (b : Bool) → not b ≡ true → b ≡ false
    negated true e = absurd (cc (e))
    negated false e = refl

    parts : (q : ℕ) (g : List ℕ) → is_left r f bit q g ≡ true → (is_of r f q g ≡ false) × (bit_of q g bit ≡ false)
    parts q g is = let h = halves (is_of r f q g) (not (bit_of q g bit)) is in (h.0, negated (bit_of q g bit) h.1)

    parts2 : (q : ℕ) (g : List ℕ) → is_right r f bit q g ≡ true → (is_of r f q g ≡ false) × (bit_of q g bit ≡ true)
    parts2 q g is = halves (is_of r f q g) (bit_of q g bit) is

pub lower_of_parts : (whole : List ℕ) (flushed : List (List FamilyMark)) (r : ℕ) (f : List ℕ) (n bit : ℕ) (left right : List FamilyMark) → IsParted r f bit left right
    → ArePartsLower whole flushed r f n left right → AreLowerBy whole flushed (mark r f n ∷ left ++ right)
lower_of_parts whole flushed r f n bit left right parted parts q g = elim (place_at r f bit q g) as (λ _. number_of (mark r f n ∷ left ++ right) q g ≤ flushed_by whole flushed q g) [
  | Top is ↦
      let e = (of_decides r f q g).0 is in
      subst (λ k. k ≤ flushed_by whole flushed q g) (sym (at_top r f n bit left right q g parted is)) (subst (λ h. n ≤ flushed_by whole flushed q h) e.1 (subst (λ x. n ≤ flushed_by whole flushed x f) e.0 parts.own))
  | Low miss z ↦ subst (λ k. k ≤ flushed_by whole flushed q g) (sym (at_left r f n bit left right q g parted miss z)) (parts.left q g)
  | High miss o ↦ subst (λ k. k ≤ flushed_by whole flushed q g) (sym (at_right r f n bit left right q g parted miss o)) (parts.right q g)
]

-- ---- the same of a branch, by the answers for its own mark and for what stands left and right

abbrev old_of : ℕ → List ℕ → ℕ → List FamilyMark → List FamilyMark → Branch
old_of r f n ls rs = record { region = r; family = f; number = n; below = ls ++ rs }

own_lower : (whole : List ℕ) (flushed : List (List FamilyMark)) (old : Branch) (r : ℕ) (f : List ℕ) (n : ℕ) (ls rs : List FamilyMark) (own b : Bool) → old_of r f n ls rs ≡ old
    → own ≡ leb old.number (flushed_by whole flushed old.region old.family) → own ≡ b → leb n (flushed_by whole flushed r f) ≡ b
own_lower whole flushed old r f n ls rs own b is low at = subst (λ (x : Branch). leb x.number (flushed_by whole flushed x.region x.family) ≡ b) (sym is) (sym low ∙ at)

pub own_not : (whole : List ℕ) (flushed : List (List FamilyMark)) (old : Branch) (r : ℕ) (f : List ℕ) (n bit : ℕ) (ls rs : List FamilyMark) (own : Bool) → old_of r f n ls rs ≡ old → IsParted r f bit ls rs
    → own ≡ leb old.number (flushed_by whole flushed old.region old.family) → own ≡ false → IsTrue false ↔ AreLowerBy whole flushed (marks_of old)
own_not whole flushed old r f n bit ls rs own is parted low at = subst (λ (x : Branch). IsTrue false ↔ AreLowerBy whole flushed (marks_of x)) is (
  λ t. absurd (cc t),
  λ all. let parts = parts_of_lower whole flushed r f n bit ls rs parted all in
      absurd (true≢false (sym (le-leb n (flushed_by whole flushed r f) parts.own) ∙ own_lower whole flushed old r f n ls rs own false is low at)),
)

pub left_not : (whole : List ℕ) (flushed : List (List FamilyMark)) (old : Branch) (r : ℕ) (f : List ℕ) (n bit : ℕ) (ls rs : List FamilyMark) (l : Bool) → old_of r f n ls rs ≡ old → IsParted r f bit ls rs
    → (IsTrue l ↔ AreLowerBy whole flushed ls) → l ≡ false → IsTrue false ↔ AreLowerBy whole flushed (marks_of old)
left_not whole flushed old r f n bit ls rs l is parted left at = subst (λ (x : Branch). IsTrue false ↔ AreLowerBy whole flushed (marks_of x)) is (
  λ t. absurd (cc t),
  λ all. let parts = parts_of_lower whole flushed r f n bit ls rs parted all in absurd (true≢false (sym (left.1 parts.left) ∙ at)),
)

pub both_lower : (whole : List ℕ) (flushed : List (List FamilyMark)) (old : Branch) (r : ℕ) (f : List ℕ) (n bit : ℕ) (ls rs : List FamilyMark) (own l rr : Bool) → old_of r f n ls rs ≡ old → IsParted r f bit ls rs
    → own ≡ leb old.number (flushed_by whole flushed old.region old.family) → own ≡ true → (IsTrue l ↔ AreLowerBy whole flushed ls) → l ≡ true → (IsTrue rr ↔ AreLowerBy whole flushed rs)
    → IsTrue rr ↔ AreLowerBy whole flushed (marks_of old)
both_lower whole flushed old r f n bit ls rs own l rr is parted low at left here right = subst (λ (x : Branch). IsTrue rr ↔ AreLowerBy whole flushed (marks_of x)) is (
  λ t. lower_of_parts whole flushed r f n bit ls rs parted (record {
    own = leb-true n (flushed_by whole flushed r f) (own_lower whole flushed old r f n ls rs own true is low at);
    left = left.0 here;
    right = right.0 t;
  }),
  λ all. right.1 (parts_of_lower whole flushed r f n bit ls rs parted all).right,
)

pub test_own : (whole : List ℕ) (flushed : List (List FamilyMark)) (old : Branch) (own : Bool) → own ≡ leb old.number (flushed_by whole flushed old.region old.family) → own ≡ false → false ≡ are_lower whole flushed (marks_of old)
test_own whole flushed old own low at = sym (ap (λ b. b && are_lower whole flushed old.below) (sym low ∙ at))

pub test_left : (whole : List ℕ) (flushed : List (List FamilyMark)) (old : Branch) (r : ℕ) (f : List ℕ) (n : ℕ) (ls rs : List FamilyMark) (l : Bool) → old_of r f n ls rs ≡ old
    → l ≡ are_lower whole flushed ls → l ≡ false → false ≡ are_lower whole flushed (marks_of old)
test_left whole flushed old r f n ls rs l is left at = subst (λ (x : Branch). false ≡ are_lower whole flushed (marks_of x)) is (sym (
    ap (λ b. leb n (flushed_by whole flushed r f) && b) (lower_append whole flushed ls rs ∙ ap (λ b. b && are_lower whole flushed rs) (sym left ∙ at)) ∙ none (leb n (flushed_by whole flushed r f))))
  where
    none : (b : Bool) → (b && false) ≡ false
    none true = refl
    none false = refl

pub test_both : (whole : List ℕ) (flushed : List (List FamilyMark)) (old : Branch) (r : ℕ) (f : List ℕ) (n : ℕ) (ls rs : List FamilyMark) (own l rr : Bool) → old_of r f n ls rs ≡ old
    → own ≡ leb old.number (flushed_by whole flushed old.region old.family) → own ≡ true → l ≡ are_lower whole flushed ls → l ≡ true → rr ≡ are_lower whole flushed rs → rr ≡ are_lower whole flushed (marks_of old)
test_both whole flushed old r f n ls rs own l rr is low at left here right = subst (λ (x : Branch). rr ≡ are_lower whole flushed (marks_of x)) is (sym (
    ap (λ b. b && are_lower whole flushed (ls ++ rs)) (own_lower whole flushed old r f n ls rs own true is low at)
    ∙ lower_append whole flushed ls rs ∙ ap (λ b. b && are_lower whole flushed rs) (sym left ∙ here) ∙ sym right))
