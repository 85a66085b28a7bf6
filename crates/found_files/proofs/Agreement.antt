-- Entries in order, looked at one after the other.
use Rattle.std.proofs.Common.{◌≡◌, inl, inr, ℕ, ◌+◌, ◌<◌, ◌≤◌, List, length, get_or, sym, ap, ◌∙◌, subst, arith}
use Rattle.std.proofs.lemmas.Bool.{cases_lt}
use Rattle.log_model.specs.declared.damage.Damage.{Damage}
use Rattle.log_model.specs.declared.damage.Damage.TheVariants as damages
use Rattle.found_files.specs.declared.found.FoundEntry.{FoundEntry}
use Rattle.found_files.specs.Sorted.{IsOfSame, IsUpTo, AreOrdered, AgreeBelow, DifferAt, GoesOn, IsFirstPair}

pub same_back : (x y : FoundEntry) → IsOfSame x y → IsOfSame y x
same_back x y h = (sym h.0, sym h.1)

pub same_on : (x y z : FoundEntry) → IsOfSame x y → IsOfSame y z → IsOfSame x z
same_on x y z h k = (h.0 ∙ k.0, h.1 ∙ k.1)

pub region_up : (x y : FoundEntry) → IsUpTo x y → x.entry.region ≤ y.entry.region
region_up x y (inl less) = omega (arith, less)
region_up x y (inr h) = omega (arith, h.0)

pub number_up : (x y : FoundEntry) → IsUpTo x y → x.entry.region ≡ y.entry.region → x.entry.number ≤ y.entry.number
number_up x y (inl less) same = absurd (omega (arith, less, same))
number_up x y (inr (same, inl less)) is = omega (arith, less)
number_up x y (inr (same, inr h)) is = omega (arith, h.0)

-- what stands between two of one region and number has them too
pub squeezed : (x y z : FoundEntry) → IsUpTo x y → IsUpTo y z → IsOfSame x z → IsOfSame x y
squeezed x y z first second same =
    let region : x.entry.region ≡ y.entry.region = omega (arith, region_up x y first, region_up y z second, same.0) in
    (region, omega (arith, number_up x y first region, number_up y z second (sym region ∙ same.0), same.1))

-- how far entries agree, and where the last region and number begin
pub record Going (xs : List FoundEntry) (first at : ℕ) : Type 0 where
  pub before : first < at
  pub same : (k : ℕ) (d : FoundEntry) → first ≤ k → k < at → IsOfSame (get_or xs first d) (get_or xs k d) × ((get_or xs first d).entry ≡ (get_or xs k d).entry)
  pub none_before : (k : ℕ) (d : FoundEntry) → k < first → IsOfSame (get_or xs k d) (get_or xs first d) → ⊥
  pub agree : AgreeBelow xs at

at_same : (xs : List FoundEntry) (i j : ℕ) (d : FoundEntry) → i ≡ j → (get_or xs i d).entry ≡ (get_or xs j d).entry
at_same xs i j d is = ap (λ (k : ℕ). (get_or xs k d).entry) is

of_same : (xs : List FoundEntry) (i j : ℕ) (d : FoundEntry) → i ≡ j → IsOfSame (get_or xs i d) (get_or xs j d)
of_same xs i j d is = (ap (λ (k : ℕ). (get_or xs k d).entry.region) is, ap (λ (k : ℕ). (get_or xs k d).entry.number) is)

pub at_first : (xs : List FoundEntry) → Going xs 0 1
at_first xs = record {
  before = omega arith;
  same = λ k d low high. (of_same xs 0 k d (omega (arith, high)), at_same xs 0 k d (omega (arith, high)));
  none_before = λ k d low same. absurd (omega (arith, low));
  agree = λ i j d low high same. at_same xs i j d (omega (arith, low, high));
}

module _ (xs : List FoundEntry) (first at : ℕ) (ordered : AreOrdered xs) (within : at < length xs) (so_far : Going xs first at) where
  -- another region or number begins
  other_begins : ((d : FoundEntry) → ¬ IsOfSame (get_or xs first d) (get_or xs at d)) → Going xs at (at + 1)
  other_begins other = record {
    before = omega arith;
    same = λ k d low high. (of_same xs at k d (omega (arith, low, high)), at_same xs at k d (omega (arith, low, high)));
    none_before = none;
    agree = λ i j d low high same. both i j d low high same;
  }
    where
      none : (k : ℕ) (d : FoundEntry) → k < at → IsOfSame (get_or xs k d) (get_or xs at d) → ⊥
      none k d lt same = elim (cases_lt k first) as (λ _. ⊥) [
        | inl early ↦ so_far.none_before k d early (squeezed (get_or xs k d) (get_or xs first d) (get_or xs at d) (ordered k first d (omega (arith, early)) (omega (arith, so_far.before, within))) (ordered first at d (omega (arith, so_far.before)) within) same)
        | inr late ↦ other d (same_on (get_or xs first d) (get_or xs k d) (get_or xs at d) (so_far.same k d late lt).0 same)
      ]

      both : (i j : ℕ) (d : FoundEntry) → i < at + 1 → j < at + 1 → IsOfSame (get_or xs i d) (get_or xs j d) → (get_or xs i d).entry ≡ (get_or xs j d).entry
      both i j d low high same = elim (cases_lt i at) as (λ _. (get_or xs i d).entry ≡ (get_or xs j d).entry) [
        | inl i_before ↦ elim (cases_lt j at) as (λ _. (get_or xs i d).entry ≡ (get_or xs j d).entry) [
          | inl j_before ↦ so_far.agree i j d i_before j_before same
          | inr j_here ↦ absurd (none i d i_before (same_on (get_or xs i d) (get_or xs j d) (get_or xs at d) same (of_same xs j at d (omega (arith, high, j_here)))))
        ]
        | inr i_here ↦ elim (cases_lt j at) as (λ _. (get_or xs i d).entry ≡ (get_or xs j d).entry) [
          | inl j_before ↦ absurd (none j d j_before (same_on (get_or xs j d) (get_or xs i d) (get_or xs at d) (same_back (get_or xs i d) (get_or xs j d) same) (of_same xs i at d (omega (arith, low, i_here)))))
          | inr j_here ↦ at_same xs i j d (omega (arith, low, high, i_here, j_here))
        ]
      ]

  -- one more of the same
  one_more : ((d : FoundEntry) → IsOfSame (get_or xs first d) (get_or xs at d) × ((get_or xs first d).entry ≡ (get_or xs at d).entry)) → Going xs first (at + 1)
  one_more here = record {
    before = omega (arith, so_far.before);
    same = λ k d low high. elim (cases_lt k at) as (λ _. IsOfSame (get_or xs first d) (get_or xs k d) × ((get_or xs first d).entry ≡ (get_or xs k d).entry)) [
      | inl early ↦ so_far.same k d low early
      | inr late ↦
          let is : at ≡ k = omega (arith, high, late) in
          (same_on (get_or xs first d) (get_or xs at d) (get_or xs k d) (here d).0 (of_same xs at k d is), (here d).1 ∙ at_same xs at k d is)
    ];
    none_before = so_far.none_before;
    agree = λ i j d low high same. both i j d low high same;
  }
    where
      with_last : (k : ℕ) (d : FoundEntry) → k < at → IsOfSame (get_or xs k d) (get_or xs at d) → (get_or xs k d).entry ≡ (get_or xs at d).entry
      with_last k d lt same = elim (cases_lt k first) as (λ _. (get_or xs k d).entry ≡ (get_or xs at d).entry) [
        | inl early ↦ absurd (so_far.none_before k d early (same_on (get_or xs k d) (get_or xs at d) (get_or xs first d) same (same_back (get_or xs first d) (get_or xs at d) (here d).0)))
        | inr late ↦ sym (so_far.same k d late lt).1 ∙ (here d).1
      ]

      both : (i j : ℕ) (d : FoundEntry) → i < at + 1 → j < at + 1 → IsOfSame (get_or xs i d) (get_or xs j d) → (get_or xs i d).entry ≡ (get_or xs j d).entry
      both i j d low high same = elim (cases_lt i at) as (λ _. (get_or xs i d).entry ≡ (get_or xs j d).entry) [
        | inl i_before ↦ elim (cases_lt j at) as (λ _. (get_or xs i d).entry ≡ (get_or xs j d).entry) [
          | inl j_before ↦ so_far.agree i j d i_before j_before same
          | inr j_here ↦
              let is : j ≡ at = omega (arith, high, j_here) in
              with_last i d i_before (same_on (get_or xs i d) (get_or xs j d) (get_or xs at d) same (of_same xs j at d is)) ∙ sym (at_same xs j at d is)
        ]
        | inr i_here ↦
            let is : i ≡ at = omega (arith, low, i_here) in
            elim (cases_lt j at) as (λ _. (get_or xs i d).entry ≡ (get_or xs j d).entry) [
              | inl j_before ↦ at_same xs i at d is ∙ sym (with_last j d j_before (same_on (get_or xs j d) (get_or xs i d) (get_or xs at d) (same_back (get_or xs i d) (get_or xs j d) same) (of_same xs i at d is)))
              | inr j_here ↦ at_same xs i j d (omega (arith, low, high, i_here, j_here))
            ]
      ]

  pub goes_on : (next : ℕ) → GoesOn xs first at next → Going xs next (at + 1)
  goes_on next (inl (is, other)) = subst (λ (n : ℕ). Going xs n (at + 1)) (sym is) (other_begins other)
  goes_on next (inr (is, here)) = subst (λ (n : ℕ). Going xs n (at + 1)) (sym is) (one_more here)

  pub first_pair : (damage : Damage) → DifferAt xs first at → ((d : FoundEntry) → damage ≡ damages.Two (get_or xs first d).name (get_or xs at d).name (get_or xs first d).entry.region (get_or xs first d).entry.number) → IsFirstPair xs damage
  first_pair damage differ is = record { at = at; first = first; within = within; before = so_far.before; damage_is = is; differ = differ; agree = so_far.agree; none_before = so_far.none_before }
