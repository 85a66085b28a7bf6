-- The flushed numbers of regions, store by store.
use Rattle.std.proofs.Common.{◌≡◌, ◌≢◌, ◌⊎◌, inl, inr, ℕ, ◌+◌, ◌<◌, ◌≤◌, max, List, [], ◌∷◌, ◌++◌, length, get_or, slice_set, refl, sym, ap, ◌∙◌, subst, arith, get_or-set_other, get_or-set_same, length-append}
use Rattle.std.proofs.Math.ListN.{length-set}
use Rattle.std.proofs.Math.Seq.{get_or-append_seam}
use Rattle.std.proofs.lemmas.Bool.{cases_eq, cases_lt}
use Rattle.std.proofs.lemmas.List.{get_or_append_left}
use Rattle.std.proofs.lemmas.List.Elements.{Contains-append_left, Contains-push, Contains-push_cases}
use Rattle.log_model.specs.Recovered.{IsGreatest, IsFor}
use Rattle.recovery_laws.proofs.Lists.{for_cases}
use Rattle.found_files.specs.declared.found.FoundStore.{FoundStore}
use Rattle.found_files.proofs.Greatest.{greatest_more, greatest_same}
use Rattle.found_files.proofs.Placing.{none_in}
use Rattle.wal_split.specs.declared.flushed.RegionFlushed.{RegionFlushed}
use Rattle.wal_split.specs.Flushed.{GoesTo, Reaches, Raises, RaisesAt, IsFlushedBy, AreFlushed, flushed_of}

family_given : (f : List ℕ) → (f ≡ []) ⊎ (f ≢ [])
family_given [] = inl refl
family_given (x ∷ f) = inr (λ none. omega (arith, ap length none))

module _ (stores : List FoundStore) (x : FoundStore) where
  abbrev at : ℕ
  at = x.name.region

  abbrev more : List FoundStore
  more = stores ++ x ∷ []

  goes_on : (r : ℕ) (f : List ℕ) (n : ℕ) → GoesTo stores r f n → GoesTo more r f n
  goes_on r f n h = (h.0, Contains-append_left stores (x ∷ []) h.0 h.1, h.2, h.3, h.4)

  reaches_on : (r n : ℕ) → Reaches stores r n → Reaches more r n
  reaches_on r n h = (h.0, Contains-append_left stores (x ∷ []) h.0 h.1, h.2, h.3)

  -- the last store alone is new
  goes_back : (r : ℕ) (f : List ℕ) (n : ℕ) → GoesTo more r f n → GoesTo stores r f n ⊎ ((at ≡ r) × IsFor x.text.family f × (n ≡ x.text.to))
  goes_back r f n h = elim (Contains-push_cases stores x h.0 h.1) as (λ _. GoesTo stores r f n ⊎ ((at ≡ r) × IsFor x.text.family f × (n ≡ x.text.to))) [
    | inl before ↦ inl (h.0, before, h.2, h.3, h.4)
    | inr this ↦ inr (ap (λ (y : FoundStore). y.name.region) this ∙ h.2, subst (λ (y : FoundStore). IsFor y.text.family f) (sym this) h.3, sym (ap (λ (y : FoundStore). y.text.to) this ∙ h.4))
  ]

  reaches_back : (r n : ℕ) → Reaches more r n → Reaches stores r n ⊎ ((at ≡ r) × (n ≡ x.text.to))
  reaches_back r n h = elim (Contains-push_cases stores x h.0 h.1) as (λ _. Reaches stores r n ⊎ ((at ≡ r) × (n ≡ x.text.to))) [
    | inl before ↦ inl (h.0, before, h.2, h.3)
    | inr this ↦ inr (ap (λ (y : FoundStore). y.name.region) this ∙ h.2, sym (ap (λ (y : FoundStore). y.text.to) this ∙ h.3))
  ]

  -- what no store more is for stays
  same_for : (r : ℕ) (f : List ℕ) (n : ℕ) → (at ≡ r → ¬ IsFor x.text.family f) → IsGreatest (GoesTo stores r f) n → IsGreatest (GoesTo more r f) n
  same_for r f n not is = greatest_same (GoesTo stores r f) (GoesTo more r f) n is (goes_on r f) (λ m h. elim (goes_back r f m h) as (λ _. GoesTo stores r f m) [ inl before ↦ before | inr new ↦ absurd (not new.0 new.1) ])

  more_for : (f : List ℕ) (n : ℕ) → IsFor x.text.family f → IsGreatest (GoesTo stores at f) n → IsGreatest (GoesTo more at f) (max n x.text.to)
  more_for f n is_for is =
      greatest_more (GoesTo stores at f) (GoesTo more at f) n is (goes_on at f) x.text.to (x, Contains-push stores x, refl, is_for, refl)
      (λ m h. elim (goes_back at f m h) as (λ _. GoesTo stores at f m ⊎ (m ≡ x.text.to)) [ inl before ↦ inl before | inr new ↦ inr new.2 ])

  still : (r : ℕ) (z : RegionFlushed) → r ≢ at → IsFlushedBy stores r z → IsFlushedBy more r z
  still r z other by = record {
    whole = same_for r [] z.whole (λ is. absurd (other (sym is))) by.whole;
    each = λ f. same_for r f (flushed_of z f) (λ is. absurd (other (sym is))) (by.each f);
    last = greatest_same (Reaches stores r) (Reaches more r) z.last by.last (reaches_on r) (λ m h. elim (reaches_back r m h) as (λ _. Reaches stores r m) [ inl before ↦ before | inr new ↦ absurd (other (sym new.0)) ]);
  }

  raised : (z y : RegionFlushed) → IsFlushedBy stores at z → Raises x.text.family x.text.to z y → IsFlushedBy more at y
  raised z y by step = record {
    whole = elim (family_given x.text.family) as (λ _. IsGreatest (GoesTo more at []) y.whole) [
      | inl none ↦ subst (λ (n : ℕ). IsGreatest (GoesTo more at []) n) (sym (step.whole none)) (more_for [] z.whole (inl none) by.whole)
      | inr some ↦ subst (λ (n : ℕ). IsGreatest (GoesTo more at []) n) (sym (step.still some)) (same_for at [] z.whole (λ _ is_for. elim is_for as (λ _. ⊥) [ inl none ↦ some none | inr none ↦ some none ]) by.whole)
    ];
    each = λ f. elim (for_cases x.text.family f) as (λ _. IsGreatest (GoesTo more at f) (flushed_of y f)) [
      | inl hit ↦ subst (λ (n : ℕ). IsGreatest (GoesTo more at f) n) (sym (step.own f hit.1)) (more_for f (flushed_of z f) hit.1 (by.each f))
      | inr miss ↦ subst (λ (n : ℕ). IsGreatest (GoesTo more at f) n) (sym (step.others f miss.1)) (same_for at f (flushed_of z f) (λ _. miss.1) (by.each f))
    ];
    last = subst (λ (n : ℕ). IsGreatest (Reaches more at) n) (sym step.last)
        (greatest_more (Reaches stores at) (Reaches more at) z.last by.last (reaches_on at) x.text.to (x, Contains-push stores x, refl, refl)
        (λ m h. elim (reaches_back at m h) as (λ _. Reaches stores at m ⊎ (m ≡ x.text.to)) [ inl before ↦ inl before | inr new ↦ inr new.1 ]));
  }

  pub one_raised : (old new : List RegionFlushed) → x.name.region ≤ 64 → AreFlushed stores old → RaisesAt x old new → AreFlushed more new
  one_raised old new low are adds = subst (λ (l : List RegionFlushed). AreFlushed more l) (sym adds.1) (record {
    long = length-set old at adds.0 ∙ are.long;
    each = λ r d lt. elim (cases_eq r at) as (λ _. IsFlushedBy more r (get_or (slice_set old at adds.0) r d)) [
      | inl same ↦ subst (λ (i : ℕ). IsFlushedBy more i (get_or (slice_set old at adds.0) i d)) (sym same)
          (subst (λ (z : RegionFlushed). IsFlushedBy more at z) (sym (get_or-set_same old at adds.0 d (omega (arith, low, are.long)))) (raised (get_or old at d) adds.0 (are.each at d (omega (arith, low))) (adds.2 d)))
      | inr other ↦ subst (λ (z : RegionFlushed). IsFlushedBy more r z) (sym (get_or-set_other old at r adds.0 d other)) (still r (get_or old r d) other (are.each r d lt))
    ];
  })

-- ---- without a store

none_greatest : (P : ℕ → Type 0) (n : ℕ) → n ≡ 0 → ((m : ℕ) → ¬ P m) → IsGreatest P n
none_greatest P n zero none = record { reached = inr zero; bound = λ m has. absurd (none m has) }

pub none_by : (x : RegionFlushed) → x.whole ≡ 0 → ((f : List ℕ) → flushed_of x f ≡ 0) → x.last ≡ 0 → (r : ℕ) → IsFlushedBy [] r x
none_by x whole each last r = record {
  whole = none_greatest (GoesTo [] r []) x.whole whole (λ m h. none_in h.0 h.1);
  each = λ f. none_greatest (GoesTo [] r f) (flushed_of x f) (each f) (λ m h. none_in h.0 h.1);
  last = none_greatest (Reaches [] r) x.last last (λ m h. none_in h.0 h.1);
}

-- so many regions without a store
pub record AreNone (count : ℕ) (xs : List RegionFlushed) : Type 0 where
  pub long : length xs ≡ count
  pub each : (k r : ℕ) (d : RegionFlushed) → k < count → IsFlushedBy [] r (get_or xs k d)

pub none_more : (count : ℕ) (xs : List RegionFlushed) (x : RegionFlushed) → AreNone count xs → ((r : ℕ) → IsFlushedBy [] r x) → AreNone (count + 1) (xs ++ x ∷ [])
none_more count xs x are none = record {
  long = length-append xs (x ∷ []) ∙ ap (λ (n : ℕ). n + 1) are.long;
  each = λ k r d lt. elim (cases_lt k count) as (λ _. IsFlushedBy [] r (get_or (xs ++ x ∷ []) k d)) [
    | inl early ↦ subst (λ (z : RegionFlushed). IsFlushedBy [] r z) (sym (get_or_append_left xs (x ∷ []) d k (omega (arith, early, are.long)))) (are.each k r d early)
    | inr late ↦ subst (λ (z : RegionFlushed). IsFlushedBy [] r z) (sym (ap (λ (i : ℕ). get_or (xs ++ x ∷ []) i d) (omega (arith, late, lt, are.long)) ∙ get_or-append_seam xs x [] d)) (none r)
  ];
}

pub all_none : (xs : List RegionFlushed) → AreNone 65 xs → AreFlushed [] xs
all_none xs are = record { long = are.long; each = λ r d lt. are.each r r d lt }

pub none_yet : (xs : List RegionFlushed) → xs ≡ [] → AreNone 0 xs
none_yet xs none = record { long = ap length none; each = λ k r d lt. absurd (omega (arith, lt)) }
