-- Entries go to the lists of their regions, one after the other.
use Rattle.std.proofs.Common.{◌≡◌, ◌⊎◌, inl, inr, ℕ, zero, suc, ◌<◌, ◌≤◌, List, [], ◌∷◌, ◌++◌, length, get_or, slice_set, Contains, flat_map, refl, sym, ap, ◌∙◌, subst, arith}
use Rattle.std.proofs.lemmas.List.Elements.{Contains-append_left, Contains-append_right, Contains-append_cases, Contains-push, Contains-push_cases}
use Rattle.std.proofs.Math.ListN.{length-set}
use Rattle.found_files.specs.declared.found.FoundEntry.{FoundEntry}
use Rattle.found_files.specs.declared.by_region.RegionEntries.{RegionEntries}
use Rattle.found_files.specs.Dealt.{entries_in, AddsTo, AreDealt, AreEmptyLists}

abbrev pub all_in : List RegionEntries → List FoundEntry
all_in lists = flat_map entries_in lists

abbrev IsLonger : List RegionEntries → ℕ → RegionEntries → FoundEntry → Type 0
IsLonger lists k l x = (d : RegionEntries) → entries_in l ≡ entries_in (get_or lists k d) ++ x ∷ []

no_more : (lists : List RegionEntries) (k : ℕ) (l : RegionEntries) (x y : FoundEntry) → k < length lists → IsLonger lists k l x → Contains (all_in (slice_set lists k l)) y
    → Contains (all_in lists) y ⊎ (x ≡ y)
no_more [] k l x y lt is has = absurd omega (arith, lt)
no_more (h ∷ t) zero l x y lt is has = elim (Contains-append_cases (entries_in l) (all_in t) y has) as (λ _. Contains (entries_in h ++ all_in t) y ⊎ (x ≡ y)) [
  | inl here ↦ elim (Contains-push_cases (entries_in h) x y (subst (λ (es : List FoundEntry). Contains es y) (is h) here)) as (λ _. Contains (entries_in h ++ all_in t) y ⊎ (x ≡ y)) [
    | inl before ↦ inl (Contains-append_left (entries_in h) (all_in t) y before)
    | inr this ↦ inr this
  ]
  | inr there ↦ inl (Contains-append_right (entries_in h) (all_in t) y there)
]
no_more (h ∷ t) (suc k) l x y lt is has = elim (Contains-append_cases (entries_in h) (all_in (slice_set t k l)) y has) as (λ _. Contains (entries_in h ++ all_in t) y ⊎ (x ≡ y)) [
  | inl here ↦ inl (Contains-append_left (entries_in h) (all_in t) y here)
  | inr there ↦ elim (no_more t k l x y (omega (arith, lt)) is there) as (λ _. Contains (entries_in h ++ all_in t) y ⊎ (x ≡ y)) [
    | inl before ↦ inl (Contains-append_right (entries_in h) (all_in t) y before)
    | inr this ↦ inr this
  ]
]

none_lost : (lists : List RegionEntries) (k : ℕ) (l : RegionEntries) (x y : FoundEntry) → k < length lists → IsLonger lists k l x → Contains (all_in lists) y
    → Contains (all_in (slice_set lists k l)) y
none_lost [] k l x y lt is has = absurd omega (arith, lt)
none_lost (h ∷ t) zero l x y lt is has = elim (Contains-append_cases (entries_in h) (all_in t) y has) as (λ _. Contains (entries_in l ++ all_in t) y) [
  | inl here ↦ Contains-append_left (entries_in l) (all_in t) y (subst (λ (es : List FoundEntry). Contains es y) (sym (is h)) (Contains-append_left (entries_in h) (x ∷ []) y here))
  | inr there ↦ Contains-append_right (entries_in l) (all_in t) y there
]
none_lost (h ∷ t) (suc k) l x y lt is has = elim (Contains-append_cases (entries_in h) (all_in t) y has) as (λ _. Contains (entries_in h ++ all_in (slice_set t k l)) y) [
  | inl here ↦ Contains-append_left (entries_in h) (all_in (slice_set t k l)) y here
  | inr there ↦ Contains-append_right (entries_in h) (all_in (slice_set t k l)) y (none_lost t k l x y (omega (arith, lt)) is there)
]

one_more : (lists : List RegionEntries) (k : ℕ) (l : RegionEntries) (x : FoundEntry) → k < length lists → IsLonger lists k l x → Contains (all_in (slice_set lists k l)) x
one_more [] k l x lt is = absurd omega (arith, lt)
one_more (h ∷ t) zero l x lt is = Contains-append_left (entries_in l) (all_in t) x (subst (λ (es : List FoundEntry). Contains es x) (sym (is h)) (Contains-push (entries_in h) x))
one_more (h ∷ t) (suc k) l x lt is = Contains-append_right (entries_in h) (all_in (slice_set t k l)) x (one_more t k l x (omega (arith, lt)) is)

-- one entry more is dealt
pub one_dealt : (xs : List FoundEntry) (x : FoundEntry) (old new : List RegionEntries) → x.entry.region ≤ 64 → AddsTo x old new → AreDealt xs old → AreDealt (xs ++ x ∷ []) new
one_dealt xs x old new low adds are =
    let lt : x.entry.region < length old = omega (arith, low, are.long) in
    subst (λ (lists : List RegionEntries). AreDealt (xs ++ x ∷ []) lists) (sym adds.1) (record {
      long = length-set old x.entry.region adds.0 ∙ are.long;
      same = λ y. (
        λ has. elim (no_more old x.entry.region adds.0 x y lt adds.2 has) as (λ _. Contains (xs ++ x ∷ []) y) [
          | inl before ↦ Contains-append_left xs (x ∷ []) y ((are.same y).0 before)
          | inr this ↦ subst (λ (z : FoundEntry). Contains (xs ++ x ∷ []) z) this (Contains-push xs x)
        ],
        λ has. elim (Contains-push_cases xs x y has) as (λ _. Contains (all_in (slice_set old x.entry.region adds.0)) y) [
          | inl before ↦ none_lost old x.entry.region adds.0 x y lt adds.2 ((are.same y).1 before)
          | inr this ↦ subst (λ (z : FoundEntry). Contains (all_in (slice_set old x.entry.region adds.0)) z) this (one_more old x.entry.region adds.0 x lt adds.2)
        ],
      );
    })

none_in : (lists : List RegionEntries) → ((k : ℕ) (d : RegionEntries) → k < length lists → entries_in (get_or lists k d) ≡ []) → all_in lists ≡ []
none_in [] none = refl
none_in (h ∷ t) none =
    ap (λ (es : List FoundEntry). es ++ all_in t) (none 0 h (omega arith)) ∙ none_in t (λ k d lt. none (suc k) d (omega (arith, lt)))

-- at the start
pub none_dealt : (lists : List RegionEntries) → AreEmptyLists 65 lists → AreDealt [] lists
none_dealt lists empty = record {
  long = empty.long;
  same = λ y. (
    λ has. subst (λ (es : List FoundEntry). Contains es y) (none_in lists (λ k d lt. empty.none k d (omega (arith, lt, empty.long)))) has,
    λ has. absurd (omega (arith, has.1)),
  );
}
