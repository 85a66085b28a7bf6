-- What is cut of the kept entries, and the numbers after a flush.
use Rattle.std.proofs.Common.{◌≡◌, inl, inr, ℕ, ◌+◌, ◌<◌, ◌≤◌, List, get_or, set, length, refl, ap, ◌∙◌, arith}
use Rattle.std.proofs.lemmas.Bool.{cases_eq, cases_lt}
use Rattle.std.proofs.lemmas.List.{get_or-set_same, get_or-set_other, get_or_past}
use Rattle.cell_model.specs.Order.{NumberedCell}
use Rattle.recovery_laws.specs.Kept.{Kept, IsCut}
use Rattle.flush_snapshot.specs.Cut.{cut_store}
use Rattle.flush_snapshot.proofs.Holds.{cut_holds}
use Rattle.log_ledger.specs.Counted.{PutsCut}
use Rattle.log_device.specs.Keeps.{store_name}

pub is_cut : (k : Kept) (r : ℕ) (family : List ℕ) (n from number : ℕ) (cells : List NumberedCell) → ((f : List ℕ) → k.flushed r f ≤ n) → PutsCut k r family n cells → IsCut k r family n (cut_store (store_name r number) family from n cells)
is_cut k r family n from number cells more puts = record {
  region = refl;
  scope = refl;
  of = refl;
  to = refl;
  more = λ f of. more f;
  cells = λ v p. (λ h. (puts v p).0 ((cut_holds (store_name r number) family from n cells v p).0 h), λ found. (cut_holds (store_name r number) family from n cells v p).1 ((puts v p).1 found));
}

-- a region that is served has a place, and is served when its store's number is counted on
pub place_of : (xs : List ℕ) (r : ℕ) → 0 < get_or xs r 0 → r < length xs
place_of xs r some = elim (cases_lt r (length xs)) as (λ _. r < length xs) [
  | inl within ↦ within
  | inr past ↦ absurd (let none = get_or_past xs r 0 past in omega (arith, none, some))
]

pub served_on : (xs : List ℕ) (r q : ℕ) → 0 < get_or xs r 0 → 0 < get_or xs q 0 → 0 < get_or (set xs r (get_or xs r 0 + 1)) q 0
served_on xs r q some served = elim (cases_eq q r) as (λ _. 0 < get_or (set xs r (get_or xs r 0 + 1)) q 0) [
  | inl is ↦
      let here : get_or (set xs r (get_or xs r 0 + 1)) q 0 ≡ get_or xs r 0 + 1 = ap (λ (p : ℕ). get_or (set xs r (get_or xs r 0 + 1)) p 0) is ∙ get_or-set_same xs r (get_or xs r 0 + 1) 0 (place_of xs r some) in
      omega (arith, here)
  | inr other ↦ let there = get_or-set_other xs r q (get_or xs r 0 + 1) 0 other in omega (arith, there, served)
]
