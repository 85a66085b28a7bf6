-- The numbers that the regions begin with.
use Rattle.std.proofs.Common.{◌≡◌, ◌≢◌, ◌⊎◌, inl, inr, ℕ, suc, ◌+◌, ◌<◌, ◌≤◌, ⊎_elim, List, [], ◌∷◌, length, map, get_or, set, replicate, Contains, refl, sym, ap, subst, ◌∙◌, arith, length-set, get_or-set_other}
use Rattle.std.specs.Prelude.{All, AllPairs}
use Rattle.std.proofs.lemmas.Grind.{get_or-set_at}
use Rattle.std.proofs.lemmas.Bool.{cases_eq}
use Rattle.std.proofs.lemmas.List.{get_or_default, length-replicate}
use Rattle.std.proofs.lemmas.List.Elements.{Contains-get_or, All-map}
use Rattle.std.proofs.lemmas.List.Kept.{AllPairs-cons}
use Rattle.seq_accounting.specs.declared.region.RegionMark.{RegionMark}
use Rattle.seq_accounting.specs.Accounts.{AreApart, AreFlushed}
use Rattle.log_ledger.specs.declared.base.RegionBase.{RegionBase}
use Rattle.log_ledger.specs.Bases.{AreOther, AreRegions, IsAmong, mark_of, AreNumbersOf}
use Rattle.log_ledger.proofs.Chains.{none_at, at_first, at_later, at_either}
use Rattle.log_ledger.proofs.Sets.{spread}

-- the same of the first i of the regions
pub record AreNumbersTo (number : RegionBase → ℕ) (regions : List RegionBase) (i : ℕ) (numbers : List ℕ) : Type 0 where
  pub wide : length numbers ≡ 65
  pub named : (k : ℕ) (d : RegionBase) → k < i → get_or numbers (get_or regions k d).region 0 ≡ number (get_or regions k d)
  pub others : (r : ℕ) → ((k : ℕ) (d : RegionBase) → k < i → (get_or regions k d).region ≢ r) → get_or numbers r 0 ≡ 0

pub numbers_none : (number : RegionBase → ℕ) (regions : List RegionBase) → AreNumbersTo number regions 0 (replicate 65 0)
numbers_none number regions = record {
  wide = length-replicate {A = ℕ} 65 0;
  named = λ k d none. absurd (omega (arith, none));
  others = λ r none. spread 65 r 0;
}

pub numbers_more : (number : RegionBase → ℕ) (regions : List RegionBase) (i : ℕ) (numbers : List ℕ) (m : RegionBase) → AllPairs AreOther regions → i < length regions
    → m ≡ get_or regions i m → m.region ≤ 64 → AreNumbersTo number regions i numbers → AreNumbersTo number regions (i + 1) (set numbers m.region (number m))
numbers_more number regions i numbers m apart lt is within h = let wide : m.region < length numbers = (let w = h.wide in omega (arith, w, within)) in record {
  wide = length-set numbers m.region (number m) ∙ h.wide;
  named = λ k d below. ⊎_elim
      (λ (e : k ≡ i). let here : get_or regions k d ≡ m = ap (λ (j : ℕ). get_or regions j d) e ∙ get_or_default regions i d m lt ∙ sym is in
      rw here (get_or-set_at numbers m.region m.region (number m) 0 refl wide))
      (λ (ne : k ≢ i). let differ : (get_or regions k d).region ≢ m.region = λ e. apart k i d (omega arith) lt (e ∙ ap (λ (n : RegionBase). n.region) (is ∙ get_or_default regions i m d lt)) in
      get_or-set_other numbers m.region (get_or regions k d).region (number m) 0 differ ∙ h.named k d (omega arith))
      (cases_eq k i);
  others = λ r none.
      let differ : r ≢ m.region = λ e. none i m (omega arith) (ap (λ (n : RegionBase). n.region) (sym is) ∙ sym e) in
      get_or-set_other numbers m.region r (number m) 0 differ ∙ h.others r (λ k d below. none k d (omega arith));
}

pub numbers_all : (number : RegionBase → ℕ) (regions : List RegionBase) (i : ℕ) (numbers : List ℕ) → i ≡ length regions → AreNumbersTo number regions i numbers → AreNumbersOf number regions numbers
numbers_all number regions i numbers end h = record {
  named = λ m there.
      let below : there.0 < i = (let lt = there.1 in omega (arith, lt, end)) in
      subst (λ (n : RegionBase). get_or numbers n.region 0 ≡ number n) there.2 (h.named there.0 m below);
  others = λ r none. h.others r (λ k d below. none (get_or regions k d) (Contains-get_or regions k d (omega (arith, below, end))));
}

-- a region is one of them, or none of them is it
pub among_or_not : (regions : List RegionBase) (r : ℕ) → IsAmong regions r ⊎ ((m : RegionBase) → Contains regions m → m.region ≢ r)
among_or_not [] r = inr (λ m has. absurd (none_at m has))
among_or_not (m ∷ ms) r = elim (cases_eq m.region r) as (λ _. IsAmong (m ∷ ms) r ⊎ ((n : RegionBase) → Contains (m ∷ ms) n → n.region ≢ r)) [
  | inl here ↦ inl (m, at_first m ms, here)
  | inr other ↦ elim (among_or_not ms r) as (λ _. IsAmong (m ∷ ms) r ⊎ ((n : RegionBase) → Contains (m ∷ ms) n → n.region ≢ r)) [
    | inl later ↦ inl (later.0, at_later m ms later.0 later.1, later.2)
    | inr none ↦ inr (λ n has. elim (at_either m ms n has) as (λ _. n.region ≢ r) [ inl is ↦ (λ same. other (ap (λ (x : RegionBase). x.region) is ∙ same)) | inr later ↦ none n later ])
  ]
]

-- the marks are of regions up to 64, and apart
pub marks_within : (regions : List RegionBase) → AreRegions regions → All (λ (m : RegionMark). m.region ≤ 64) (map mark_of regions)
marks_within regions are = All-map (λ (m : RegionMark). m.region ≤ 64) mark_of regions (λ k d there. (are.each (get_or regions k d) (Contains-get_or regions k d there)).region)

pub marks_apart : (regions : List RegionBase) → AllPairs AreOther regions → AllPairs AreApart (map mark_of regions)
marks_apart [] apart = λ i j d below there. absurd (omega (arith, there))
marks_apart (m ∷ ms) apart = AllPairs-cons AreApart (mark_of m) (map mark_of ms)
    (All-map (AreApart (mark_of m)) mark_of ms (λ k d there. apart 0 (suc k) d (omega arith) (omega (arith, there))))
    (marks_apart ms (λ i j d below there. apart (suc i) (suc j) d (omega (arith, below)) (omega (arith, there))))

has_mark : (regions : List RegionBase) (m : RegionBase) → Contains regions m → Contains (map mark_of regions) (mark_of m)
has_mark [] m has = absurd (none_at m has)
has_mark (n ∷ ns) m has = elim (at_either n ns m has) as (λ _. Contains (map mark_of (n ∷ ns)) (mark_of m)) [
  | inl is ↦ subst (λ (x : RegionBase). Contains (map mark_of (n ∷ ns)) (mark_of x)) is (at_first (mark_of n) (map mark_of ns))
  | inr later ↦ at_later (mark_of n) (map mark_of ns) (mark_of m) (has_mark ns m later)
]

of_mark : (regions : List RegionBase) (k : RegionMark) → Contains (map mark_of regions) k → (m : RegionBase) × Contains regions m × (mark_of m ≡ k)
of_mark [] k has = absurd (none_at k has)
of_mark (n ∷ ns) k has = elim (at_either (mark_of n) (map mark_of ns) k has) as (λ _. (m : RegionBase) × Contains (n ∷ ns) m × (mark_of m ≡ k)) [
  | inl is ↦ (n, at_first n ns, is)
  | inr later ↦ (let more = of_mark ns k later in (more.0, at_later n ns more.0 more.1, more.2))
]

-- what the accounting says is flushed of each region is what the regions say
pub same_flushed : (regions : List RegionBase) (flushed drawn : List ℕ) → AreFlushed (map mark_of regions) flushed → AreNumbersOf (λ (m : RegionBase). m.flushed) regions drawn
    → (r : ℕ) → get_or flushed r 0 ≡ get_or drawn r 0
same_flushed regions flushed drawn are is r = elim (among_or_not regions r) as (λ _. get_or flushed r 0 ≡ get_or drawn r 0) [
  | inl among ↦ subst (λ (q : ℕ). get_or flushed q 0 ≡ get_or drawn q 0) among.2 (are.marked (mark_of among.0) (has_mark regions among.0 among.1) ∙ sym (is.named among.0 among.1))
  | inr none ↦ are.others r (λ k has. let m = of_mark regions k has in λ same. none m.0 m.1 (ap (λ (x : RegionMark). x.region) m.2 ∙ same)) ∙ sym (is.others r none)
]

-- a bound of each of the numbers
pub numbers_bound : (number : RegionBase → ℕ) (regions : List RegionBase) (numbers : List ℕ) (b : ℕ) → AreNumbersOf number regions numbers → ((m : RegionBase) → Contains regions m → number m ≤ b) → (r : ℕ) → get_or numbers r 0 ≤ b
numbers_bound number regions numbers b are each r = elim (among_or_not regions r) as (λ _. get_or numbers r 0 ≤ b) [
  | inl among ↦ subst (λ (q : ℕ). get_or numbers q 0 ≤ b) among.2 (omega (arith, are.named among.0 among.1, each among.0 among.1))
  | inr none ↦ omega (arith, are.others r none)
]
