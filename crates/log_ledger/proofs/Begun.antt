-- The numbers at the start.
use Rattle.std.proofs.Common.{◌≡◌, ◌↔◌, inl, inr, ℕ, ◌+◌, ◌-◌, ◌≤◌, ◌^◌, List, [], length, map, get_or, replicate, Contains, sym, ap, ◌∙◌, subst, arith}
use Rattle.std.proofs.lemmas.List.{length-replicate}
use Rattle.log_model.specs.Files.{Files}
use Rattle.log_model.specs.Recovered.{IsFlushed}
use Rattle.recovery_laws.specs.Kept.{HasNoLogs, start_of}
use Rattle.recovery_laws.proofs.Lists.{none_in}
use Rattle.recovery_laws.proofs.Started.{started_orderly}
use Rattle.seq_accounting.specs.Accounts.{ClosedFile, AreFlushed, flushed_at}
use Rattle.seq_accounting.specs.Marks.{FamilyMark, number_of}
use Rattle.seq_accounting.specs.Noted.{HasNoted}
use Rattle.seq_accounting.specs.Order.{IsInOrder}
use Rattle.log_trucks.specs.Held.{Held}
use Rattle.log_ledger.specs.declared.base.RegionBase.{RegionBase}
use Rattle.log_ledger.specs.History.{started_in}
use Rattle.log_ledger.specs.Numbers.{Numbers, IsServed, IsChain, IsRegionInOrder, AreStoresFew, AreInOrder}
use Rattle.log_ledger.specs.Counted.{IsHighest, AreCounted, CarriesUnflushed, IsCounted}
use Rattle.log_ledger.specs.Bases.{AreRegions, IsAmong, mark_of, AreNumbersOf}
use Rattle.log_ledger.proofs.Sets.{same_at, spread}
use Rattle.log_ledger.proofs.Chains.{none_at}
use Rattle.log_ledger.proofs.Highest.{highest_none}
use Rattle.log_ledger.proofs.Bases.{among_or_not, same_flushed, numbers_bound}

-- the numbers are those that the regions begin with
pub record BegunWith (regions : List RegionBase) (b : Numbers) : Type 0 where
  pub drawn : AreNumbersOf (λ (m : RegionBase). m.flushed) regions b.drawn
  pub drawn_wide : length b.drawn ≡ 65
  pub synced : b.synced ≡ b.drawn
  pub stored : b.stored ≡ b.drawn
  pub closed : b.closed ≡ b.drawn
  pub next_store : AreNumbersOf (λ (m : RegionBase). m.next_store) regions b.next_store
  pub next_store_wide : length b.next_store ≡ 65
  pub whole : AreFlushed (map mark_of regions) b.accounts.whole
  pub flushed : b.accounts.flushed ≡ replicate 65 []
  pub noted : b.accounts.noted ≡ b.accounts.whole
  pub flushing : b.accounts.flushing ≡ replicate 65 0
  pub current : b.accounts.current ≡ []
  pub history : HasNoted b.accounts []
  pub order : IsInOrder b.accounts
  pub files : b.accounts.closed ≡ []
  pub chains : b.chains ≡ replicate 65 []

-- what is flushed of each family
pub flushed_begun : (regions : List RegionBase) (b : Numbers) → BegunWith regions b → (r : ℕ) (f : List ℕ) → flushed_at b.accounts r f ≡ get_or b.drawn r 0
flushed_begun regions b begun r f =
    let none : number_of (get_or b.accounts.flushed r []) r f ≡ 0 = ap (λ (l : List FamilyMark). number_of l r f) (same_at (replicate 65 []) b.accounts.flushed r [] begun.flushed ∙ spread 65 r []) in
    omega (arith, none, same_flushed regions b.accounts.whole b.drawn begun.whole begun.drawn r)

-- no flush came off yet
pub few_begun : (regions : List RegionBase) (b : Numbers) → BegunWith regions b → (limit : ℕ) → ((m : RegionBase) → Contains regions m → m.next_store ≤ limit + 1) → AreStoresFew limit b
few_begun regions b begun limit each = ∣ record {
  notes = [];
  noted = begun.history;
  each = λ r. record {
    flushes = 0;
    counted = omega arith;
    small = tt;
    rising = omega arith;
    next_store = omega (arith, numbers_bound (λ (m : RegionBase). m.next_store) regions b.next_store (limit + 1) begun.next_store each r);
  };
} ∣₁

pub order_begun : (regions : List RegionBase) (b : Numbers) → AreRegions regions → BegunWith regions b → AreInOrder b
order_begun regions b are begun = record {
  wide = record {
    drawn = begun.drawn_wide;
    synced = ap length begun.synced ∙ begun.drawn_wide;
    stored = ap length begun.stored ∙ begun.drawn_wide;
    closed = ap length begun.closed ∙ begun.drawn_wide;
    next_store = begun.next_store_wide;
    chains = ap length begun.chains ∙ length-replicate {A = List Held} 65 [];
  };
  accounts = begun.order;
  regions = region;
  few = few_begun regions b begun (2 ^ 63) (λ m has. omega (arith, (are.each m has).store));
}
  where
    region : (r : ℕ) → IsRegionInOrder b r
    region r =
        let synced = same_at b.drawn b.synced r 0 begun.synced in
        let whole = same_flushed regions b.accounts.whole b.drawn begun.whole begun.drawn r in
        record {
          drawn = omega (arith, numbers_bound (λ (m : RegionBase). m.flushed) regions b.drawn (2 ^ 48 - 1) begun.drawn (λ m has. omega (arith, (are.each m has).flushed)) r);
          noted = same_at b.accounts.whole b.accounts.noted r 0 begun.noted ∙ whole;
          synced = omega (arith, synced);
          closed = omega (arith, same_at b.drawn b.closed r 0 begun.closed, synced);
          durable = λ f. omega (arith, flushed_begun regions b begun r f, synced);
          whole = λ f. omega (arith, flushed_begun regions b begun r f, flushed_begun regions b begun r []);
          stored = omega (arith, same_at b.drawn b.stored r 0 begun.stored, synced);
          idle = same_at (replicate 65 0) b.accounts.flushing r 0 begun.flushing ∙ spread 65 r 0;
          chain = subst (IsChain b.accounts r (get_or b.stored r 0) (get_or b.drawn r 0)) (sym (same_at (replicate 65 []) b.chains r [] begun.chains ∙ spread 65 r []))
              (record { entries = ∣ record { entries = []; held = tt; live = λ e has. absurd (none_at e has) } ∣₁; numbers = λ x has. absurd (none_at x has) });
        }

pub served_begun : (regions : List RegionBase) (b : Numbers) → AreRegions regions → BegunWith regions b → (r : ℕ) → IsServed b r ↔ IsAmong regions r
served_begun regions b are begun r = (forth, back)
  where
    forth : IsServed b r → IsAmong regions r
    forth served = elim (among_or_not regions r) as (λ _. IsAmong regions r) [
      | inl among ↦ among
      | inr none ↦ absurd (omega (arith, begun.next_store.others r none, served))
    ]

    back : IsAmong regions r → IsServed b r
    back among = subst (IsServed b) among.2 (omega (arith, begun.next_store.named among.0 among.1, (are.each among.0 among.1).store_given))

pub counted_begun : (regions : List RegionBase) (b : Numbers) → AreRegions regions → BegunWith regions b
    → (F : Files) (flushed : ℕ → ℕ) → ((m : RegionBase) → Contains regions m → flushed m.region ≡ m.flushed) → HasNoLogs F → ((r : ℕ) (f : List ℕ) → IsFlushed F r f (flushed r)) → IsCounted b (started_in F flushed)
counted_begun regions b are begun F flushed told none is = record {
  synced = λ r served. same_at b.drawn b.synced r 0 begun.synced ∙ drawn r served;
  drawn = drawn;
  flushed = λ r f served. flushed_begun regions b begun r f ∙ drawn r served;
  stored = λ e f has. absurd (none_in e has);
  noted = begun.history;
  newer = λ e has. absurd (none_in e has);
  ours = λ e has. absurd (elim has as (λ _. ⊥) [ inl current ↦ none_in e current | inr durable ↦ none_in e durable ]);
  given = λ e has. absurd (none_in e has);
  current = λ r f. subst (IsHighest r f []) (sym (ap (λ (l : List FamilyMark). number_of l r f) begun.current)) (highest_none r f);
  logs = subst (λ (l : List ClosedFile). AreCounted b l []) (sym begun.files) tt;
  chains = λ r served. subst (CarriesUnflushed (start_of F flushed) r) (sym (same_at (replicate 65 []) b.chains r [] begun.chains ∙ spread 65 r []))
      (record { entries = []; held = tt; apart = tt; each = λ e. ((λ has. absurd (none_in e has)), (λ has. absurd (none_in e has.0))) });
  orderly = started_orderly F flushed none is;
}
  where
    drawn : (r : ℕ) → IsServed b r → get_or b.drawn r 0 ≡ flushed r
    drawn r served = let among = (served_begun regions b are begun r).0 served in
        subst (λ (q : ℕ). get_or b.drawn q 0 ≡ flushed q) among.2 (begun.drawn.named among.0 among.1 ∙ sym (told among.0 among.1))
