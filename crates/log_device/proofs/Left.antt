-- What is left to flush lies above what is flushed.
use Rattle.std.proofs.Common.{◌≡◌, inl, inr, ℕ, ◌<◌, ◌≤◌, ◌^◌, eqb, List, [], get_or, ap, arith}
use Rattle.std.proofs.Math.Logic.{∥∥₁_elim}
use Rattle.std.proofs.lemmas.Bool.{cases_lt, and_parts, eqb-true}
use Rattle.seq_accounting.specs.Marks.{has_family}
use Rattle.seq_accounting.specs.Accounts.{flushed_at}
use Rattle.log_model.specs.Recovered.{IsFor}
use Rattle.log_ledger.specs.Numbers.{Numbers, AreInOrder, HasFewStores, IsLeft}

module _ (b : Numbers) (r : ℕ) (family : List ℕ) (order : AreInOrder b) where
  lower : (f : List ℕ) → IsFor family f → flushed_at b.accounts r family ≤ flushed_at b.accounts r f
  lower f (inl all) = let at : flushed_at b.accounts r family ≡ flushed_at b.accounts r [] = ap (flushed_at b.accounts r) all in omega (arith, at, (order.regions r).whole f)
  lower f (inr one) = let at : flushed_at b.accounts r family ≡ flushed_at b.accounts r f = ap (flushed_at b.accounts r) one in omega (arith, at)

  -- the region's last number is above it
  pub left_low : IsLeft b r family → flushed_at b.accounts r family < get_or b.drawn r 0
  left_low left = elim (cases_lt (flushed_at b.accounts r family) (get_or b.drawn r 0)) as (λ _. flushed_at b.accounts r family < get_or b.drawn r 0) [
    | inl lt ↦ lt
    | inr high ↦ absurd (∥∥₁_elim left (λ x y. absurd x) (λ l. ∥∥₁_elim order.few (λ x y. absurd x) (λ (few : HasFewStores (2 ^ 63) b).
        let least = (few.noted.oldest r l.0).some l.2 in
        let region : least.note.region ≡ r = eqb-true least.note.region r (and_parts (eqb least.note.region r) (has_family least.note.families l.0) least.of).0 in
        let at : get_or b.accounts.noted least.note.region 0 ≡ get_or b.accounts.noted r 0 = ap (λ (q : ℕ). get_or b.accounts.noted q 0) region in
        omega (arith, high, lower l.0 l.1, least.above, least.number, few.noted.highest least.note least.member, (order.regions r).noted, at))))
  ]
