-- What always holds stays so at each call.
use Rattle.std.proofs.Common.{◌≡◌, inl, inr, ℕ, ◌+◌, ◌<◌, ◌≤◌, ◌^◌, ◌==◌, ◌&&◌, Bool, true, false, cond, List, [], ◌∷◌, filter, length, get_or, set, Contains, refl, sym, ap, ◌∙◌, subst, arith}
use Rattle.std.specs.Coded.{le_prop}
use Rattle.std.proofs.Math.Logic.{∥∥₁_elim, ∥∥₁_map, ∥∥₁_map₂}
use Rattle.std.proofs.lemmas.Bool.{cases_eq, cases_lt, eq-eqb}
use Rattle.log_model.specs.Entry.{Entry}
use Rattle.recovery_laws.proofs.Lists.{flush_cases, some_family}
use Rattle.seq_accounting.specs.Marks.{first_given, has_family}
use Rattle.seq_accounting.specs.Accounts.{Accounts, flushed_at, oldest_at}
use Rattle.seq_accounting.specs.Noted.{Note, HasNoted}
use Rattle.seq_accounting.specs.Order.{IsInOrder}
use Rattle.log_trucks.specs.Held.{Held, Haul, Carries, noted_of, AreHeld}
use Rattle.log_trucks.specs.Unflushed.{has_unflushed}
use Rattle.log_ledger.specs.Numbers.{Numbers, IsServed, IsLive, HasLive, IsChain, IsRegionInOrder, AreInOrder, IsLeft}
use Rattle.log_ledger.proofs.Sets.{same_at, set_here, set_there, length_of_set, within}
use Rattle.log_ledger.proofs.Chains.{none_at, at_either, truck_of, entry_in}
use Rattle.log_ledger.proofs.Filters.{in_filter}
use Rattle.log_ledger.proofs.Families.{family_noted, entry_above}
use Rattle.log_ledger.proofs.Few.{few_same, few_staged, few_flushed}
use Rattle.log_ledger.proofs.Steps.{StagedBy, ClosedBy, FlushedBy, ForgottenBy, flushed_same, oldest_same, flushed_here, flushed_there, oldest_there}

-- the numbers of one region are the same
pub record SameAt (old new : Numbers) (r : ℕ) : Type 0 where
  pub drawn : get_or new.drawn r 0 ≡ get_or old.drawn r 0
  pub noted : get_or new.accounts.noted r 0 ≡ get_or old.accounts.noted r 0
  pub synced : get_or new.synced r 0 ≡ get_or old.synced r 0
  pub closed : get_or new.closed r 0 ≡ get_or old.closed r 0
  pub flushed : (f : List ℕ) → flushed_at new.accounts r f ≡ flushed_at old.accounts r f
  pub oldest : (f : List ℕ) → 0 < oldest_at old.accounts r f → 0 < oldest_at new.accounts r f
  pub stored : get_or new.stored r 0 ≡ get_or old.stored r 0
  pub flushing : get_or new.accounts.flushing r 0 ≡ get_or old.accounts.flushing r 0
  pub chain : get_or new.chains r [] ≡ get_or old.chains r []

live_same : (a b : Accounts) (r : ℕ) (e : Entry) → ((f : List ℕ) → flushed_at b r f ≡ flushed_at a r f) → ((f : List ℕ) → 0 < oldest_at a r f → 0 < oldest_at b r f) → IsLive a r e → IsLive b r e
live_same a b r e flushed oldest is = record {
  some = (is.some.0, is.some.1, omega (arith, is.some.2, flushed is.some.0));
  noted = λ f has above. oldest f (is.noted f has (omega (arith, above, flushed f)));
}

-- the same trucks are live by other accounts of the same numbers
all_live : (a b : Accounts) (r : ℕ) (chain : List Held) → ((f : List ℕ) → flushed_at b r f ≡ flushed_at a r f) → ((f : List ℕ) → 0 < oldest_at a r f → 0 < oldest_at b r f) → HasLive a r chain → HasLive b r chain
all_live a b r chain flushed oldest is = record { entries = is.entries; held = is.held; live = λ e has. live_same a b r e flushed oldest (is.live e has) }

chain_same : (old new : Numbers) (r : ℕ) → SameAt old new r → IsChain old.accounts r (get_or old.stored r 0) (get_or old.drawn r 0) (get_or old.chains r [])
    → IsChain new.accounts r (get_or new.stored r 0) (get_or new.drawn r 0) (get_or new.chains r [])
chain_same old new r s is = record {
  entries = subst (λ (l : List Held). ∥ HasLive new.accounts r l ∥₁) (sym s.chain) (∥∥₁_map is.entries (all_live old.accounts new.accounts r (get_or old.chains r []) s.flushed s.oldest));
  numbers = λ h has. let was = is.numbers h (subst (λ (l : List Held). Contains l h) s.chain has) in (omega (arith, was.0, s.stored), omega (arith, was.1, s.drawn));
}

pub region_same : (old new : Numbers) (r : ℕ) → SameAt old new r → IsRegionInOrder old r → IsRegionInOrder new r
region_same old new r s is = record {
  drawn = omega (arith, is.drawn, s.drawn);
  noted = s.noted ∙ is.noted ∙ sym s.drawn;
  synced = omega (arith, is.synced, s.synced, s.drawn);
  closed = omega (arith, is.closed, s.closed, s.synced);
  durable = λ f. omega (arith, is.durable f, s.flushed f, s.synced);
  whole = λ f. omega (arith, is.whole f, s.flushed f, s.flushed []);
  stored = omega (arith, is.stored, s.stored, s.synced);
  idle = s.flushing ∙ is.idle;
  chain = chain_same old new r s is.chain;
}

first_grows : (hit : Bool) (o n : ℕ) → 0 < n → 0 < o → 0 < cond hit (first_given o n) o
first_grows true o n some is = elim (cases_eq o 0) as (λ _. 0 < first_given o n) [ inl zero ↦ absurd (omega (arith, zero, is)) | inr other ↦ subst (λ (k : ℕ). 0 < k) (sym (given o n other)) is ]
  where
    given : (o n : ℕ) → (o ≡ 0 → ⊥) → first_given o n ≡ o
    given o n other = elim (cases_lt 0 o) as (λ _. first_given o n ≡ o) [ inl lt ↦ grind (arith, lt) | inr le ↦ absurd (other (omega (arith, le))) ]
first_grows false o n some is = is

first_some : (o n : ℕ) → 0 < n → 0 < first_given o n
first_some o n some = grind (arith, some)

-- a truck in front of a chain
chain_more : (old new : Numbers) (t : Haul) → StagedBy old new t → IsRegionInOrder old t.region → get_or old.drawn t.region 0 < t.number → ∥ ((e : Entry) × Carries t e) ∥₁
    → IsChain new.accounts t.region (get_or old.stored t.region 0) t.number (noted_of t ∷ get_or old.chains t.region [])
chain_more old new t s was above entry = record {
  entries = ∥∥₁_map₂ entry was.chain.entries (λ c is. record {
    entries = c.0 ∷ is.entries;
    held = (record { region = sym c.1.region; number = sym c.1.number; bytes = c.1.bytes; entry = c.1.entry }, is.held);
    live = λ d has. elim (at_either c.0 is.entries d has) as (λ _. IsLive new.accounts t.region d) [
      | inl same ↦ subst (IsLive new.accounts t.region) same (new_one c.0 c.1)
      | inr later ↦ live_same old.accounts new.accounts t.region d (flushed_same old.accounts new.accounts s.noted.flushed t.region) oldest (is.live d later)
    ];
  });
  numbers = λ h has. elim (at_either (noted_of t) (get_or old.chains t.region []) h has) as (λ _. (get_or old.stored t.region 0 < h.number) × (h.number ≤ t.number)) [
    | inl same ↦ (let number = ap (λ (x : Held). x.number) same in (omega (arith, was.stored, was.synced, above, number), omega (arith, number)))
    | inr later ↦ (let is = was.chain.numbers h later in (is.0, omega (arith, is.1, above)))
  ];
}
  where
    oldest : (f : List ℕ) → 0 < oldest_at old.accounts t.region f → 0 < oldest_at new.accounts t.region f
    oldest f some = subst (λ (k : ℕ). 0 < k) (sym (s.noted.oldest t.region f)) (first_grows (t.region == t.region && has_family t.families f) (oldest_at old.accounts t.region f) t.number (omega (arith, above)) some)

    new_one : (e : Entry) → Carries t e → IsLive new.accounts t.region e
    new_one e c = let f = some_family e c.entry.batch.given in record {
      some = (f.0, f.1, omega (arith, flushed_same old.accounts new.accounts s.noted.flushed t.region f.0, was.durable f.0, was.synced, above, c.number));
      noted = λ g has higher.
          let there : has_family t.families g ≡ true = c.families g ∙ family_noted e g has in
          subst (λ (k : ℕ). 0 < k) (sym (s.noted.oldest t.region g
          ∙ ap (λ (b : Bool). cond (b && has_family t.families g) (first_given (oldest_at old.accounts t.region g) t.number) (oldest_at old.accounts t.region g)) (eq-eqb t.region t.region refl)
          ∙ ap (λ (b : Bool). cond b (first_given (oldest_at old.accounts t.region g) t.number) (oldest_at old.accounts t.region g)) there))
          (first_some (oldest_at old.accounts t.region g) t.number (omega (arith, above)));
    }

pub order_staged : (old new : Numbers) (t : Haul) → AreInOrder old → StagedBy old new t → IsServed old t.region → get_or old.drawn t.region 0 < t.number → ∥ ((e : Entry) × Carries t e) ∥₁ → AreInOrder new
order_staged old new t order s ours above entry = record {
  wide = record {
    drawn = length_of_set old.drawn new.drawn t.region t.number s.drawn ∙ order.wide.drawn;
    synced = ap length s.synced ∙ order.wide.synced;
    stored = ap length s.stored ∙ order.wide.stored;
    closed = ap length s.closed ∙ order.wide.closed;
    next_store = ap length s.next_store ∙ order.wide.next_store;
    chains = length_of_set old.chains new.chains t.region (noted_of t ∷ get_or old.chains t.region []) s.chains ∙ order.wide.chains;
  };
  accounts = s.order;
  regions = λ r. elim (cases_eq r t.region) as (λ _. IsRegionInOrder new r) [
    | inl here ↦ subst (IsRegionInOrder new) (sym here) at_region
    | inr other ↦ region_same old new r (elsewhere r other) (order.regions r)
  ];
  few = few_staged (2 ^ 63) old new t order s ours above entry order.few;
}
  where
    place : t.region < 65
    place = omega (arith, within old.next_store t.region ours, order.wide.next_store)

    some : 0 < t.number
    some = omega (arith, above)

    elsewhere : (r : ℕ) → (r ≡ t.region → ⊥) → SameAt old new r
    elsewhere r other = record {
      drawn = set_there old.drawn new.drawn t.region t.number r 0 s.drawn other;
      noted = set_there old.accounts.noted new.accounts.noted t.region t.number r 0 s.noted.noted other;
      synced = same_at old.synced new.synced r 0 s.synced;
      closed = same_at old.closed new.closed r 0 s.closed;
      flushed = flushed_same old.accounts new.accounts s.noted.flushed r;
      oldest = λ f is. subst (λ (k : ℕ). 0 < k) (sym (s.noted.oldest r f)) (first_grows (t.region == r && has_family t.families f) (oldest_at old.accounts r f) t.number some is);
      stored = same_at old.stored new.stored r 0 s.stored;
      flushing = same_at old.accounts.flushing new.accounts.flushing r 0 s.noted.flushing;
      chain = set_there old.chains new.chains t.region (noted_of t ∷ get_or old.chains t.region []) r [] s.chains other;
    }

    number : t.number < 2 ^ 48
    number = ∥∥₁_elim entry le_prop (λ c. omega (arith, c.1.entry.number, c.1.number))

    at_region : IsRegionInOrder new t.region
    at_region =
        let drawn = set_here old.drawn new.drawn t.region t.number t.region 0 s.drawn (omega (arith, place, order.wide.drawn)) refl in
        let noted = set_here old.accounts.noted new.accounts.noted t.region t.number t.region 0 s.noted.noted (omega (arith, place, order.accounts.wide.noted)) refl in
        let chain = set_here old.chains new.chains t.region (noted_of t ∷ get_or old.chains t.region []) t.region [] s.chains (omega (arith, place, order.wide.chains)) refl in
        let was = order.regions t.region in
        let flushed = flushed_same old.accounts new.accounts s.noted.flushed t.region in
        let synced = same_at old.synced new.synced t.region 0 s.synced in
        let stored = same_at old.stored new.stored t.region 0 s.stored in
        record {
          drawn = omega (arith, drawn, number);
          noted = noted ∙ sym drawn;
          synced = omega (arith, synced, drawn, was.synced, above);
          closed = omega (arith, same_at old.closed new.closed t.region 0 s.closed, synced, was.closed);
          durable = λ f. omega (arith, flushed f, synced, was.durable f);
          whole = λ f. omega (arith, flushed f, flushed [], was.whole f);
          stored = omega (arith, stored, synced, was.stored);
          idle = same_at old.accounts.flushing new.accounts.flushing t.region 0 s.noted.flushing ∙ was.idle;
          chain = subst (λ (n : ℕ). IsChain new.accounts t.region n (get_or new.drawn t.region 0) (get_or new.chains t.region [])) (sym stored)
              (subst (λ (n : ℕ). IsChain new.accounts t.region (get_or old.stored t.region 0) n (get_or new.chains t.region [])) (sym drawn)
              (subst (IsChain new.accounts t.region (get_or old.stored t.region 0) t.number) (sym chain) (chain_more old new t s was above entry)));
        }

-- the current file closed
pub order_closed : (old new : Numbers) (file : ℕ) → AreInOrder old → ClosedBy old new file → AreInOrder new
order_closed old new file order s = record {
  wide = record {
    drawn = ap length s.drawn ∙ order.wide.drawn;
    synced = ap length s.synced ∙ order.wide.synced;
    stored = ap length s.stored ∙ order.wide.stored;
    closed = ap length s.closed ∙ order.wide.synced;
    next_store = ap length s.next_store ∙ order.wide.next_store;
    chains = ap length s.chains ∙ order.wide.chains;
  };
  accounts = s.keeps.order;
  regions = region;
  few = few_same (2 ^ 63) old new s.keeps.history (flushed_same old.accounts new.accounts s.keeps.numbers.flushed) s.drawn s.next_store order.few;
}
  where
    region : (r : ℕ) → IsRegionInOrder new r
    region r =
        let was = order.regions r in
        let drawn = same_at old.drawn new.drawn r 0 s.drawn in
        let synced = same_at old.synced new.synced r 0 s.synced in
        let closed = same_at old.synced new.closed r 0 s.closed in
        let flushed = flushed_same old.accounts new.accounts s.keeps.numbers.flushed r in
        let stored = same_at old.stored new.stored r 0 s.stored in
        record {
          drawn = omega (arith, drawn, was.drawn);
          noted = same_at old.accounts.noted new.accounts.noted r 0 s.keeps.numbers.noted ∙ was.noted ∙ sym drawn;
          synced = omega (arith, synced, drawn, was.synced);
          closed = omega (arith, closed, synced);
          durable = λ f. omega (arith, flushed f, synced, was.durable f);
          whole = λ f. omega (arith, flushed f, flushed [], was.whole f);
          stored = omega (arith, stored, synced, was.stored);
          idle = same_at old.accounts.flushing new.accounts.flushing r 0 s.keeps.numbers.flushing ∙ was.idle;
          chain = record {
            entries = subst (λ (l : List Held). ∥ HasLive new.accounts r l ∥₁) (sym (same_at old.chains new.chains r [] s.chains))
                (∥∥₁_map was.chain.entries (all_live old.accounts new.accounts r (get_or old.chains r []) flushed (λ f is. subst (λ (k : ℕ). 0 < k) (sym (oldest_same old.accounts new.accounts s.keeps.numbers.oldest r f)) is)));
            numbers = λ h has. let is = was.chain.numbers h (subst (λ (l : List Held). Contains l h) (same_at old.chains new.chains r [] s.chains) has) in (omega (arith, is.0, stored), omega (arith, is.1, drawn));
          };
        }

-- a family of a region flushed, or all
module _ (old new : Numbers) (r : ℕ) (family : List ℕ) (order : AreInOrder old) (s : FlushedBy old new r family) (ours : IsServed old r) where
  private_place : r < 65
  private_place = omega (arith, within old.next_store r ours, order.wide.next_store)

  n : ℕ
  n = get_or old.drawn r 0

  -- what is flushed no truck is above
  low : (held : List Held) (es : List Entry) → AreHeld held es → ((h : Held) → Contains held h → (get_or old.stored r 0 < h.number) × (h.number ≤ get_or old.drawn r 0)) → (e : Entry) → Contains es e
      → (get_or old.stored r 0 < e.number) × (e.number ≤ get_or old.drawn r 0)
  low held es are each e has = let t = truck_of held es are e has in let is = each t.0 t.1 in (omega (arith, is.0, t.2), omega (arith, is.1, t.2))

  live_left : (e : Entry) → IsLive old.accounts r e → e.number ≤ get_or old.drawn r 0 → has_unflushed new.accounts r e ≡ true → IsLive new.accounts r e
  live_left e is below passes = record {
    some = entry_above new.accounts r e passes;
    noted = λ f has above. elim (flush_cases r family r f) as (λ _. 0 < oldest_at new.accounts r f) [
      | inl hit ↦ absurd (omega (arith, above, below, flushed_here old.accounts new.accounts r family (get_or old.drawn r 0) s.flushed r f refl hit.1))
      | inr other ↦ subst (λ (k : ℕ). 0 < k) (sym (oldest_there old.accounts new.accounts r family (get_or old.drawn r 0) s.flushed r f other))
          (is.noted f has (omega (arith, above, flushed_there old.accounts new.accounts r family (get_or old.drawn r 0) s.flushed r f other)))
    ];
  }

  left : HasLive old.accounts r (get_or old.chains r []) → HasLive new.accounts r s.chains.now
  left is = record {
    entries = filter (has_unflushed new.accounts r) is.entries;
    held = s.chains.has is.entries is.held;
    live = λ e has.
        let was = in_filter (has_unflushed new.accounts r) is.entries e has in
        live_left e (is.live e was.0) (low (get_or old.chains r []) is.entries is.held (order.regions r).chain.numbers e was.0).1 was.1;
  }

  stored_below : (e : Entry) → has_unflushed new.accounts r e ≡ true → (get_or old.stored r 0 < e.number) × (e.number ≤ get_or old.drawn r 0) → get_or new.stored r 0 < e.number
  stored_below e passes is = by family refl
    where
      by : (g : List ℕ) → family ≡ g → get_or new.stored r 0 < e.number
      by [] none =
          let above = entry_above new.accounts r e passes in
          absurd (omega (arith, above.2, is.1, flushed_here old.accounts new.accounts r family (get_or old.drawn r 0) s.flushed r above.0 refl (inl none)))
      by (x ∷ xs) some = omega (arith, is.0, same_at old.stored new.stored r 0 (s.stored_one (λ none. absurd (cc (some, none)))))

  numbers : (h : Held) → Contains s.chains.now h → HasLive old.accounts r (get_or old.chains r []) → (get_or new.stored r 0 < h.number) × (h.number ≤ get_or old.drawn r 0)
  numbers h has is =
      let found = entry_in s.chains.now (filter (has_unflushed new.accounts r) is.entries) (s.chains.has is.entries is.held) h has in
      let was = in_filter (has_unflushed new.accounts r) is.entries found.0 found.1 in
      let bounds = low (get_or old.chains r []) is.entries is.held (order.regions r).chain.numbers found.0 was.0 in
      (omega (arith, stored_below found.0 was.1 bounds, found.2), omega (arith, bounds.1, found.2))

  at_region : get_or old.drawn r 0 ≤ get_or old.synced r 0 → IsRegionInOrder new r
  at_region committed =
      let was = order.regions r in
      let drawn = same_at old.drawn new.drawn r 0 s.drawn in
      let synced = same_at old.synced new.synced r 0 s.synced in
      let chain = set_here old.chains new.chains r s.chains.now r [] s.chains.set (omega (arith, private_place, order.wide.chains)) refl in
      let flushing : get_or new.accounts.flushing r 0 ≡ 0 = set_here s.flushed.begun.flushing new.accounts.flushing r 0 r 0 s.flushed.completed.flushing
      (omega (arith, private_place, length_of_set old.accounts.flushing s.flushed.begun.flushing r (get_or old.drawn r 0) s.flushed.started.flushing, order.accounts.wide.flushing)) refl in
      record {
        drawn = omega (arith, drawn, was.drawn);
        noted = same_at s.flushed.begun.noted new.accounts.noted r 0 s.flushed.completed.noted
            ∙ set_here old.accounts.noted s.flushed.begun.noted r (get_or old.drawn r 0) r 0 s.flushed.started.noted (omega (arith, private_place, order.accounts.wide.noted)) refl ∙ sym drawn;
        synced = omega (arith, synced, drawn, was.synced);
        closed = omega (arith, same_at old.closed new.closed r 0 s.closed, synced, was.closed);
        durable = λ f. elim (flush_cases r family r f) as (λ _. flushed_at new.accounts r f ≤ get_or new.synced r 0) [
          | inl hit ↦ omega (arith, flushed_here old.accounts new.accounts r family (get_or old.drawn r 0) s.flushed r f refl hit.1, synced, committed)
          | inr other ↦ omega (arith, flushed_there old.accounts new.accounts r family (get_or old.drawn r 0) s.flushed r f other, synced, was.durable f)
        ];
        whole = λ f. whole f;
        stored = stored synced committed;
        idle = flushing;
        chain = record {
          entries = subst (λ (l : List Held). ∥ HasLive new.accounts r l ∥₁) (sym chain) (∥∥₁_map was.chain.entries left);
          numbers = λ h has.
              let there = subst (λ (l : List Held). Contains l h) chain has in (
                ∥∥₁_elim was.chain.entries le_prop (λ is. (numbers h there is).0),
                ∥∥₁_elim was.chain.entries le_prop (λ is. omega (arith, (numbers h there is).1, drawn)),
              );
        };
      }
    where
      whole : (f : List ℕ) → flushed_at new.accounts r [] ≤ flushed_at new.accounts r f
      whole f =
          let was = order.regions r in
          elim (flush_cases r family r f) as (λ _. flushed_at new.accounts r [] ≤ flushed_at new.accounts r f) [
            | inl hit ↦ (let now = flushed_here old.accounts new.accounts r family (get_or old.drawn r 0) s.flushed r f refl hit.1 in elim (flush_cases r family r []) as (λ _. flushed_at new.accounts r [] ≤ flushed_at new.accounts r f) [
              | inl all ↦ omega (arith, now, flushed_here old.accounts new.accounts r family (get_or old.drawn r 0) s.flushed r [] refl all.1)
              | inr one ↦ omega (arith, now, flushed_there old.accounts new.accounts r family (get_or old.drawn r 0) s.flushed r [] one, was.durable [], was.synced)
            ])
            | inr other ↦ (let now = flushed_there old.accounts new.accounts r family (get_or old.drawn r 0) s.flushed r f other in elim (flush_cases r family r []) as (λ _. flushed_at new.accounts r [] ≤ flushed_at new.accounts r f) [
              | inl all ↦ absurd (other refl (inl (elim all.1 as (λ _. family ≡ []) [ inl none ↦ none | inr same ↦ same ])))
              | inr one ↦ omega (arith, now, flushed_there old.accounts new.accounts r family (get_or old.drawn r 0) s.flushed r [] one, was.whole f)
            ])
          ]

      stored : get_or new.synced r 0 ≡ get_or old.synced r 0 → get_or old.drawn r 0 ≤ get_or old.synced r 0 → get_or new.stored r 0 ≤ get_or new.synced r 0
      stored synced committed = by family refl
        where
          by : (g : List ℕ) → family ≡ g → get_or new.stored r 0 ≤ get_or new.synced r 0
          by [] none = omega (arith, set_here old.stored new.stored r (get_or old.drawn r 0) r 0 (s.stored_all none) (omega (arith, private_place, order.wide.stored)) refl, synced, committed)
          by (x ∷ xs) some = omega (arith, same_at old.stored new.stored r 0 (s.stored_one (λ none. absurd (cc (some, none)))), synced, (order.regions r).stored)

  stored_elsewhere : (q : ℕ) → (q ≡ r → ⊥) → get_or new.stored q 0 ≡ get_or old.stored q 0
  stored_elsewhere q other = by family refl
    where
      by : (g : List ℕ) → family ≡ g → get_or new.stored q 0 ≡ get_or old.stored q 0
      by [] none = set_there old.stored new.stored r (get_or old.drawn r 0) q 0 (s.stored_all none) other
      by (x ∷ xs) some = same_at old.stored new.stored q 0 (s.stored_one (λ none. absurd (cc (some, none))))

  stored_wide : length new.stored ≡ 65
  stored_wide = by family refl
    where
      by : (g : List ℕ) → family ≡ g → length new.stored ≡ 65
      by [] none = length_of_set old.stored new.stored r (get_or old.drawn r 0) (s.stored_all none) ∙ order.wide.stored
      by (x ∷ xs) some = ap length (s.stored_one (λ none. absurd (cc (some, none)))) ∙ order.wide.stored

  elsewhere : (q : ℕ) → (q ≡ r → ⊥) → SameAt old new q
  elsewhere q other = record {
    drawn = same_at old.drawn new.drawn q 0 s.drawn;
    noted = same_at s.flushed.begun.noted new.accounts.noted q 0 s.flushed.completed.noted ∙ set_there old.accounts.noted s.flushed.begun.noted r (get_or old.drawn r 0) q 0 s.flushed.started.noted other;
    synced = same_at old.synced new.synced q 0 s.synced;
    closed = same_at old.closed new.closed q 0 s.closed;
    flushed = λ f. flushed_there old.accounts new.accounts r family (get_or old.drawn r 0) s.flushed q f (λ same for. other (sym same));
    oldest = λ f is. subst (λ (k : ℕ). 0 < k) (sym (oldest_there old.accounts new.accounts r family (get_or old.drawn r 0) s.flushed q f (λ same for. other (sym same)))) is;
    stored = stored_elsewhere q other;
    flushing = set_there s.flushed.begun.flushing new.accounts.flushing r 0 q 0 s.flushed.completed.flushing other
        ∙ set_there old.accounts.flushing s.flushed.begun.flushing r (get_or old.drawn r 0) q 0 s.flushed.started.flushing other;
    chain = set_there old.chains new.chains r s.chains.now q [] s.chains.set other;
  }

  pub order_flushed : IsLeft old r family → get_or old.drawn r 0 ≤ get_or old.synced r 0 → AreInOrder new
  order_flushed some committed = record {
    wide = record {
      drawn = ap length s.drawn ∙ order.wide.drawn;
      synced = ap length s.synced ∙ order.wide.synced;
      stored = stored_wide;
      closed = ap length s.closed ∙ order.wide.closed;
      next_store = length_of_set old.next_store new.next_store r (get_or old.next_store r 0 + 1) s.next_store ∙ order.wide.next_store;
      chains = length_of_set old.chains new.chains r s.chains.now s.chains.set ∙ order.wide.chains;
    };
    accounts = s.order;
    regions = λ q. elim (cases_eq q r) as (λ _. IsRegionInOrder new q) [
      | inl here ↦ subst (IsRegionInOrder new) (sym here) (at_region committed)
      | inr other ↦ region_same old new q (elsewhere q other) (order.regions q)
    ];
    few = few_flushed (2 ^ 63) old new r family order s ours some committed order.few;
  }

-- closed files forgotten
pub order_forgotten : (old new : Numbers) → AreInOrder old → ForgottenBy old new → AreInOrder new
order_forgotten old new order s = record {
  wide = record {
    drawn = ap length s.drawn ∙ order.wide.drawn;
    synced = ap length s.synced ∙ order.wide.synced;
    stored = ap length s.stored ∙ order.wide.stored;
    closed = ap length s.closed ∙ order.wide.closed;
    next_store = ap length s.next_store ∙ order.wide.next_store;
    chains = ap length s.chains ∙ order.wide.chains;
  };
  accounts = s.keeps.order;
  regions = λ r. region_same old new r (record {
    drawn = same_at old.drawn new.drawn r 0 s.drawn;
    noted = same_at old.accounts.noted new.accounts.noted r 0 s.keeps.numbers.noted;
    synced = same_at old.synced new.synced r 0 s.synced;
    closed = same_at old.closed new.closed r 0 s.closed;
    flushed = flushed_same old.accounts new.accounts s.keeps.numbers.flushed r;
    oldest = λ f is. subst (λ (k : ℕ). 0 < k) (sym (oldest_same old.accounts new.accounts s.keeps.numbers.oldest r f)) is;
    stored = same_at old.stored new.stored r 0 s.stored;
    flushing = same_at old.accounts.flushing new.accounts.flushing r 0 s.keeps.numbers.flushing;
    chain = same_at old.chains new.chains r [] s.chains;
  }) (order.regions r);
  few = few_same (2 ^ 63) old new s.keeps.history (flushed_same old.accounts new.accounts s.keeps.numbers.flushed) s.drawn s.next_store order.few;
}

-- all that is staged committed
pub order_committed : (b : Numbers) → AreInOrder b → AreInOrder (record b { synced = b.drawn })
order_committed b order = record {
  wide = record { drawn = order.wide.drawn; synced = order.wide.drawn; stored = order.wide.stored; closed = order.wide.closed; next_store = order.wide.next_store; chains = order.wide.chains };
  accounts = order.accounts;
  regions = λ r. let was = order.regions r in record {
    drawn = was.drawn;
    noted = was.noted;
    synced = omega arith;
    closed = omega (arith, was.closed, was.synced);
    durable = λ f. omega (arith, was.durable f, was.synced);
    whole = was.whole;
    stored = omega (arith, was.stored, was.synced);
    idle = was.idle;
    chain = was.chain;
  };
  few = few_same (2 ^ 63) b (record b { synced = b.drawn }) (λ notes is. is) (λ r f. refl) refl refl order.few;
}

-- an empty file closed
pub order_empty : (b : Numbers) → AreInOrder b → AreInOrder (record b { closed = b.synced })
order_empty b order = record {
  wide = record { drawn = order.wide.drawn; synced = order.wide.synced; stored = order.wide.stored; closed = order.wide.synced; next_store = order.wide.next_store; chains = order.wide.chains };
  accounts = order.accounts;
  regions = λ r. let was = order.regions r in record {
    drawn = was.drawn;
    noted = was.noted;
    synced = was.synced;
    closed = omega arith;
    durable = was.durable;
    whole = was.whole;
    stored = was.stored;
    idle = was.idle;
    chain = was.chain;
  };
  few = few_same (2 ^ 63) b (record b { closed = b.synced }) (λ notes is. is) (λ r f. refl) refl refl order.few;
}

-- a flush that found nothing
pub order_kept : (b : Numbers) (r : ℕ) → AreInOrder b → IsServed b r → get_or b.chains r [] ≡ [] → AreInOrder (record b { stored = set b.stored r (get_or b.synced r 0) })
order_kept b r order ours none = record {
  wide = record { drawn = order.wide.drawn; synced = order.wide.synced; stored = length_of_set b.stored (set b.stored r (get_or b.synced r 0)) r (get_or b.synced r 0) refl ∙ order.wide.stored; closed = order.wide.closed; next_store = order.wide.next_store; chains = order.wide.chains };
  accounts = order.accounts;
  regions = λ q. elim (cases_eq q r) as (λ _. IsRegionInOrder (record b { stored = set b.stored r (get_or b.synced r 0) }) q) [
    | inl here ↦ here_at q here
    | inr other ↦ region_same b (record b { stored = set b.stored r (get_or b.synced r 0) }) q (record {
      drawn = refl;
      noted = refl;
      synced = refl;
      closed = refl;
      flushed = λ f. refl;
      oldest = λ f is. is;
      stored = set_there b.stored (set b.stored r (get_or b.synced r 0)) r (get_or b.synced r 0) q 0 refl other;
      flushing = refl;
      chain = refl;
    }) (order.regions q)
  ];
  few = few_same (2 ^ 63) b (record b { stored = set b.stored r (get_or b.synced r 0) }) (λ notes is. is) (λ r f. refl) refl refl order.few;
}
  where
    place : r < length b.stored
    place = omega (arith, within b.next_store r ours, order.wide.next_store, order.wide.stored)

    here_at : (q : ℕ) → q ≡ r → IsRegionInOrder (record b { stored = set b.stored r (get_or b.synced r 0) }) q
    here_at q here = let was = order.regions q in record {
      drawn = was.drawn;
      noted = was.noted;
      synced = was.synced;
      closed = was.closed;
      durable = was.durable;
      whole = was.whole;
      stored = omega (arith, set_here b.stored (set b.stored r (get_or b.synced r 0)) r (get_or b.synced r 0) q 0 refl place here, ap (λ (k : ℕ). get_or b.synced k 0) here);
      idle = was.idle;
      chain = record { entries = was.chain.entries; numbers = λ h has. absurd (none_at h (subst (λ (l : List Held). Contains l h) (ap (λ (k : ℕ). get_or b.chains k []) here ∙ none) has)) };
    }

-- more room
pub order_room : (b : Numbers) (n : ℕ) → AreInOrder b → IsInOrder (record b.accounts { room = n }) → ((notes : List Note) → HasNoted b.accounts notes → HasNoted (record b.accounts { room = n }) notes)
    → AreInOrder (record b { accounts = record b.accounts { room = n } })
order_room b n order accounts history = record {
  wide = record { drawn = order.wide.drawn; synced = order.wide.synced; stored = order.wide.stored; closed = order.wide.closed; next_store = order.wide.next_store; chains = order.wide.chains };
  accounts = accounts;
  regions = λ r. region_same b (record b { accounts = record b.accounts { room = n } }) r (record {
    drawn = refl;
    noted = refl;
    synced = refl;
    closed = refl;
    flushed = λ f. refl;
    oldest = λ f is. is;
    stored = refl;
    flushing = refl;
    chain = refl;
  }) (order.regions r);
  few = few_same (2 ^ 63) b (record b { accounts = record b.accounts { room = n } }) history (λ r f. refl) refl refl order.few;
}
