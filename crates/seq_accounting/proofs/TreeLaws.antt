-- Marks in a tree.
use Rattle.std.proofs.Common.{◌≡◌, inl, inr, ℕ, Bool, true, false, cond, not, ◌&&◌, ◌||◌, List, [], ◌∷◌, ◌++◌, refl, sym, ap, subst, ◌∙◌}
use Rattle.std.proofs.lemmas.Bool.{and_parts, and_from, and_left, not_from_true, not_from_false, cases_Bool}
use Rattle.seq_accounting.specs.Marks.{FamilyMark, IsPut, is_same, is_of, first_given, number_of, has_family, families_in, all_keys}
use Rattle.seq_accounting.specs.Branch.{Branch, IsParted, bit_of, is_left, is_right, marks_of}
use Rattle.seq_accounting.proofs.KeyLaws.{of_self, of_alike, of_other, of_decides, first_zero, number_append, all_append, has_append, none_of}

abbrev pub mark : ℕ → List ℕ → ℕ → FamilyMark
mark r f n = record { region = r; family = f; number = n }

-- what stands below a mark is of no number where the mark is
none_left : (r : ℕ) (f : List ℕ) (bit : ℕ) (left : List FamilyMark) (q : ℕ) (g : List ℕ) → all_keys (is_left r f bit) left ≡ true → is_left r f bit q g ≡ false → number_of left q g ≡ 0
none_left r f bit left q g all miss = none_of (is_left r f bit) left q g all miss

none_right : (r : ℕ) (f : List ℕ) (bit : ℕ) (right : List FamilyMark) (q : ℕ) (g : List ℕ) → all_keys (is_right r f bit) right ≡ true → is_right r f bit q g ≡ false → number_of right q g ≡ 0
none_right r f bit right q g all miss = none_of (is_right r f bit) right q g all miss

-- the number of the mark itself
pub at_top : (r : ℕ) (f : List ℕ) (n bit : ℕ) (left right : List FamilyMark) (q : ℕ) (g : List ℕ) → IsParted r f bit left right → is_of r f q g ≡ true
    → number_of (mark r f n ∷ left ++ right) q g ≡ n
at_top r f n bit left right q g parted is =
    let one = none_left r f bit left q g parted.left (and_left (not (is_of r f q g)) (not (bit_of q g bit)) (not_from_true (is_of r f q g) is)) in
    let two = none_right r f bit right q g parted.right (and_left (not (is_of r f q g)) (bit_of q g bit) (not_from_true (is_of r f q g) is)) in
    ap (λ b. first_given (cond b n 0) (number_of (left ++ right) q g)) is
    ∙ ap (first_given n) (number_append left right q g ∙ ap (λ k. first_given k (number_of right q g)) one ∙ two)
    ∙ first_zero n

pub at_left : (r : ℕ) (f : List ℕ) (n bit : ℕ) (left right : List FamilyMark) (q : ℕ) (g : List ℕ) → IsParted r f bit left right → is_of r f q g ≡ false → bit_of q g bit ≡ false
    → number_of (mark r f n ∷ left ++ right) q g ≡ number_of left q g
at_left r f n bit left right q g parted other low =
    let two = none_right r f bit right q g parted.right (second (not (is_of r f q g)) (bit_of q g bit) low) in
    ap (λ b. first_given (cond b n 0) (number_of (left ++ right) q g)) other
    ∙ number_append left right q g ∙ ap (first_given (number_of left q g)) two ∙ first_zero (number_of left q g)
  where
    second : (a b : Bool) → b ≡ false → (a && b) ≡ false
    second true b e = e
    second false b e = refl

pub at_right : (r : ℕ) (f : List ℕ) (n bit : ℕ) (left right : List FamilyMark) (q : ℕ) (g : List ℕ) → IsParted r f bit left right → is_of r f q g ≡ false → bit_of q g bit ≡ true
    → number_of (mark r f n ∷ left ++ right) q g ≡ number_of right q g
at_right r f n bit left right q g parted other high =
    let one = none_left r f bit left q g parted.left (second (not (is_of r f q g)) (not (bit_of q g bit)) (not_from_true (bit_of q g bit) high)) in
    ap (λ b. first_given (cond b n 0) (number_of (left ++ right) q g)) other
    ∙ number_append left right q g ∙ ap (λ k. first_given k (number_of right q g)) one
  where
    second : (a b : Bool) → b ≡ false → (a && b) ≡ false
    second true b e = e
    second false b e = refl

-- where a family of a region stands: it is the mark's, or left, or right
pub data Place (r : ℕ) (f : List ℕ) (bit : ℕ) (q : ℕ) (g : List ℕ) : Type 0 where
  Top : is_of r f q g ≡ true → Place r f bit q g
  Low : is_of r f q g ≡ false → bit_of q g bit ≡ false → Place r f bit q g
  High : is_of r f q g ≡ false → bit_of q g bit ≡ true → Place r f bit q g

pub place_at : (r : ℕ) (f : List ℕ) (bit : ℕ) (q : ℕ) (g : List ℕ) → Place r f bit q g
place_at r f bit q g = elim (cases_Bool (is_of r f q g)) as (λ _. Place r f bit q g) [
  | inl is ↦ Top is
  | inr other ↦ elim (cases_Bool (bit_of q g bit)) as (λ _. Place r f bit q g) [ inl one ↦ High other one | inr zero ↦ Low other zero ]
]

-- ---- a mark put in

pub put_alone : (r : ℕ) (f : List ℕ) (n : ℕ) → IsPut [] (mark r f n ∷ []) r f n
put_alone r f n = record {
  numbers = λ q g. first_zero (cond (is_of r f q g) n 0);
  families = λ g. refl;
  keys = λ p old new. and_from (p r f) true new refl;
}

-- the mark itself takes the number
pub put_top : (r : ℕ) (f : List ℕ) (n bit : ℕ) (left right : List FamilyMark) (r0 : ℕ) (f0 : List ℕ) (n0 : ℕ) → IsParted r f bit left right → is_of r f r0 f0 ≡ true
    → IsPut (mark r f n ∷ left ++ right) (mark r f n0 ∷ left ++ right) r0 f0 n0
put_top r f n bit left right r0 f0 n0 parted is =
    let e = (of_decides r f r0 f0).0 is in record {
      numbers = λ q g. rw (← e.0, ← e.1) (elim (cases_Bool (is_of r f q g)) as (λ _. number_of (mark r f n0 ∷ left ++ right) q g ≡ cond (is_of r f q g) n0 (number_of (mark r f n ∷ left ++ right) q g)) [
        | inl here ↦ at_top r f n0 bit left right q g parted here ∙ sym (ap (λ b. cond b n0 (number_of (mark r f n ∷ left ++ right) q g)) here)
        | inr there ↦ ap (λ b. first_given (cond b n0 0) (number_of (left ++ right) q g)) there ∙ sym (ap (λ b. first_given (cond b n 0) (number_of (left ++ right) q g)) there)
            ∙ sym (ap (λ b. cond b n0 (number_of (mark r f n ∷ left ++ right) q g)) there)
      ]);
      families = λ g. rw (← e.1) (twice (is_same f g) (has_family (families_in (left ++ right)) g));
      keys = λ p old new. old;
    }
  where
    twice : (a b : Bool) → (a || b) ≡ (a || (a || b))
    twice true b = refl
    twice false b = refl

abbrev AreHas : List ℕ → List FamilyMark → List ℕ → Bool
AreHas f ms g = is_same f g || has_family (families_in ms) g

pub parted_left : (r : ℕ) (f : List ℕ) (bit : ℕ) (left left2 right : List FamilyMark) (r0 : ℕ) (f0 : List ℕ) (n0 : ℕ) → IsParted r f bit left right → is_of r f r0 f0 ≡ false → bit_of r0 f0 bit ≡ false
    → IsPut left left2 r0 f0 n0 → IsParted r f bit left2 right
parted_left r f bit left left2 right r0 f0 n0 parted other low put = record {
  left = put.keys (is_left r f bit) parted.left (and_from (not (is_of r f r0 f0)) (not (bit_of r0 f0 bit)) (not_from_false (is_of r f r0 f0) other) (not_from_false (bit_of r0 f0 bit) low));
  right = parted.right;
}

pub parted_right : (r : ℕ) (f : List ℕ) (bit : ℕ) (left right right2 : List FamilyMark) (r0 : ℕ) (f0 : List ℕ) (n0 : ℕ) → IsParted r f bit left right → is_of r f r0 f0 ≡ false → bit_of r0 f0 bit ≡ true
    → IsPut right right2 r0 f0 n0 → IsParted r f bit left right2
parted_right r f bit left right right2 r0 f0 n0 parted other high put = record {
  left = parted.left;
  right = put.keys (is_right r f bit) parted.right (and_from (not (is_of r f r0 f0)) (bit_of r0 f0 bit) (not_from_false (is_of r f r0 f0) other) high);
}

-- it is put in on the left
pub put_left : (r : ℕ) (f : List ℕ) (n bit : ℕ) (left left2 right : List FamilyMark) (r0 : ℕ) (f0 : List ℕ) (n0 : ℕ) → IsParted r f bit left right → is_of r f r0 f0 ≡ false → bit_of r0 f0 bit ≡ false
    → IsPut left left2 r0 f0 n0 → IsPut (mark r f n ∷ left ++ right) (mark r f n ∷ left2 ++ right) r0 f0 n0
put_left r f n bit left left2 right r0 f0 n0 parted other zero put =
    let parted2 = parted_left r f bit left left2 right r0 f0 n0 parted other zero put in record {
      numbers = λ q g. elim (place_at r f bit q g) as (λ _. number_of (mark r f n ∷ left2 ++ right) q g ≡ cond (is_of r0 f0 q g) n0 (number_of (mark r f n ∷ left ++ right) q g)) [
        | Top is ↦ at_top r f n bit left2 right q g parted2 is ∙ sym (at_top r f n bit left right q g parted is)
            ∙ sym (ap (λ b. cond b n0 (number_of (mark r f n ∷ left ++ right) q g)) (of_other (is_of r f) r0 f0 q g false other is))
        | Low miss z ↦ at_left r f n bit left2 right q g parted2 miss z ∙ put.numbers q g ∙ sym (ap (λ k. cond (is_of r0 f0 q g) n0 k) (at_left r f n bit left right q g parted miss z))
        | High miss one ↦ at_right r f n bit left2 right q g parted2 miss one ∙ sym (at_right r f n bit left right q g parted miss one)
            ∙ sym (ap (λ b. cond b n0 (number_of (mark r f n ∷ left ++ right) q g)) (of_other (λ x h. bit_of x h bit) r0 f0 q g false zero one))
      ];
      families = λ g. ap (λ b. is_same f g || b) (has_append left2 right g ∙ ap (λ b. b || has_family (families_in right) g) (put.families g))
          ∙ swap (is_same f g) (is_same f0 g) (has_family (families_in left) g) (has_family (families_in right) g)
          ∙ ap (λ b. is_same f0 g || (is_same f g || b)) (sym (has_append left right g));
      keys = λ p old new.
          let a = and_parts (p r f) (all_keys p (left ++ right)) old in
          let b = and_parts (all_keys p left) (all_keys p right) (sym (all_append p left right) ∙ a.1) in
          and_from (p r f) (all_keys p (left2 ++ right)) a.0 (all_append p left2 right ∙ and_from (all_keys p left2) (all_keys p right) (put.keys p b.0 new) b.1);
    }
  where
    swap : (a b c d : Bool) → (a || ((b || c) || d)) ≡ (b || (a || (c || d)))
    swap true true c d = refl
    swap true false c d = refl
    swap false true c d = refl
    swap false false c d = refl

-- or on the right
pub put_right : (r : ℕ) (f : List ℕ) (n bit : ℕ) (left right right2 : List FamilyMark) (r0 : ℕ) (f0 : List ℕ) (n0 : ℕ) → IsParted r f bit left right → is_of r f r0 f0 ≡ false → bit_of r0 f0 bit ≡ true
    → IsPut right right2 r0 f0 n0 → IsPut (mark r f n ∷ left ++ right) (mark r f n ∷ left ++ right2) r0 f0 n0
put_right r f n bit left right right2 r0 f0 n0 parted other one put =
    let parted2 = parted_right r f bit left right right2 r0 f0 n0 parted other one put in record {
      numbers = λ q g. elim (place_at r f bit q g) as (λ _. number_of (mark r f n ∷ left ++ right2) q g ≡ cond (is_of r0 f0 q g) n0 (number_of (mark r f n ∷ left ++ right) q g)) [
        | Top is ↦ at_top r f n bit left right2 q g parted2 is ∙ sym (at_top r f n bit left right q g parted is)
            ∙ sym (ap (λ b. cond b n0 (number_of (mark r f n ∷ left ++ right) q g)) (of_other (is_of r f) r0 f0 q g false other is))
        | Low miss z ↦ at_left r f n bit left right2 q g parted2 miss z ∙ sym (at_left r f n bit left right q g parted miss z)
            ∙ sym (ap (λ b. cond b n0 (number_of (mark r f n ∷ left ++ right) q g)) (of_other (λ x h. bit_of x h bit) r0 f0 q g true one z))
        | High miss o ↦ at_right r f n bit left right2 q g parted2 miss o ∙ put.numbers q g ∙ sym (ap (λ k. cond (is_of r0 f0 q g) n0 k) (at_right r f n bit left right q g parted miss o))
      ];
      families = λ g. ap (λ b. is_same f g || b) (has_append left right2 g ∙ ap (λ b. has_family (families_in left) g || b) (put.families g))
          ∙ swap (is_same f g) (is_same f0 g) (has_family (families_in left) g) (has_family (families_in right) g)
          ∙ ap (λ b. is_same f0 g || (is_same f g || b)) (sym (has_append left right g));
      keys = λ p old new.
          let a = and_parts (p r f) (all_keys p (left ++ right)) old in
          let b = and_parts (all_keys p left) (all_keys p right) (sym (all_append p left right) ∙ a.1) in
          and_from (p r f) (all_keys p (left ++ right2)) a.0 (all_append p left right2 ∙ and_from (all_keys p left) (all_keys p right2) b.0 (put.keys p b.1 new));
    }
  where
    swap : (a b c d : Bool) → (a || (c || (b || d))) ≡ (b || (a || (c || d)))
    swap true true c d = refl
    swap true false c d = refl
    swap false true true d = refl
    swap false true false d = refl
    swap false false c d = refl

-- ---- the same of a branch

pub put_alone_at : (rs : List FamilyMark) (b m : Branch) → rs ≡ [] → b ≡ m → m.below ≡ [] → IsPut rs (marks_of b) m.region m.family m.number
put_alone_at rs b m none is alone =
    let lone : marks_of m ≡ mark m.region m.family m.number ∷ [] = ap (λ l. mark m.region m.family m.number ∷ l) alone in
    subst (λ l. IsPut l (marks_of b) m.region m.family m.number) (sym none) (subst (λ x. IsPut [] (marks_of x) m.region m.family m.number) (sym is)
    (subst (λ l. IsPut [] l m.region m.family m.number) (sym lone) (put_alone m.region m.family m.number)))

pub put_top_at : (old : Branch) (r : ℕ) (f : List ℕ) (n bit : ℕ) (ls rs : List FamilyMark) (m : Branch) (n0 : ℕ) → record { region = r; family = f; number = n; below = ls ++ rs } ≡ old → IsParted r f bit ls rs
    → is_of old.region old.family m.region m.family ≡ true → n0 ≡ m.number → IsPut (marks_of old) (mark r f n0 ∷ ls ++ rs) m.region m.family m.number
put_top_at old r f n bit ls rs m n0 is parted same number =
    let here = subst (λ (b : Branch). is_of b.region b.family m.region m.family ≡ true) (sym is) same in
    subst (λ (b : Branch). IsPut (marks_of b) (mark r f n0 ∷ ls ++ rs) m.region m.family m.number) is
    (subst (IsPut (mark r f n ∷ ls ++ rs) (mark r f n0 ∷ ls ++ rs) m.region m.family) number (put_top r f n bit ls rs m.region m.family n0 parted here))

pub put_left_at : (old : Branch) (r : ℕ) (f : List ℕ) (n bit : ℕ) (ls ls2 rs : List FamilyMark) (m : Branch) → record { region = r; family = f; number = n; below = ls ++ rs } ≡ old → IsParted r f bit ls rs
    → is_of old.region old.family m.region m.family ≡ false → bit_of m.region m.family bit ≡ false → IsPut ls ls2 m.region m.family m.number → IsPut (marks_of old) (mark r f n ∷ ls2 ++ rs) m.region m.family m.number
put_left_at old r f n bit ls ls2 rs m is parted other zero put =
    let there = subst (λ (b : Branch). is_of b.region b.family m.region m.family ≡ false) (sym is) other in
    subst (λ (b : Branch). IsPut (marks_of b) (mark r f n ∷ ls2 ++ rs) m.region m.family m.number) is (put_left r f n bit ls ls2 rs m.region m.family m.number parted there zero put)

pub put_right_at : (old : Branch) (r : ℕ) (f : List ℕ) (n bit : ℕ) (ls rs rs2 : List FamilyMark) (m : Branch) → record { region = r; family = f; number = n; below = ls ++ rs } ≡ old → IsParted r f bit ls rs
    → is_of old.region old.family m.region m.family ≡ false → bit_of m.region m.family bit ≡ true → IsPut rs rs2 m.region m.family m.number → IsPut (marks_of old) (mark r f n ∷ ls ++ rs2) m.region m.family m.number
put_right_at old r f n bit ls rs rs2 m is parted other one put =
    let there = subst (λ (b : Branch). is_of b.region b.family m.region m.family ≡ false) (sym is) other in
    subst (λ (b : Branch). IsPut (marks_of b) (mark r f n ∷ ls ++ rs2) m.region m.family m.number) is (put_right r f n bit ls rs rs2 m.region m.family m.number parted there one put)

pub own_at : (old : Branch) (r : ℕ) (f : List ℕ) (n bit : ℕ) (ls rs : List FamilyMark) (q : ℕ) (g : List ℕ) → record { region = r; family = f; number = n; below = ls ++ rs } ≡ old → IsParted r f bit ls rs
    → is_of old.region old.family q g ≡ true → n ≡ number_of (marks_of old) q g
own_at old r f n bit ls rs q g is parted same =
    let here = subst (λ (b : Branch). is_of b.region b.family q g ≡ true) (sym is) same in
    subst (λ (b : Branch). n ≡ number_of (marks_of b) q g) is (sym (at_top r f n bit ls rs q g parted here))
