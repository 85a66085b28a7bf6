-- The numbers once a family of a region is flushed, and once closed files are forgotten.
use Rattle.std.proofs.Common.{◌≡◌, inl, inr, ℕ, ◌+◌, ◌<◌, ◌≤◌, Bool, cond, List, [], ◌∷◌, ◌++◌, filter, length, map, get_or, set, Contains, refl, sym, ap, ◌∙◌, subst, arith, append-nil}
use Rattle.std.proofs.lemmas.Bool.{cases_eq, cases_lt, cases_Bool}
use Rattle.std.proofs.lemmas.List.Elements.{Contains-append_left}
use Rattle.log_model.specs.Entry.{Entry}
use Rattle.log_model.specs.Recovered.{HasFamily}
use Rattle.recovery_laws.specs.Kept.{Kept, lasts, flushed_to, AreApart}
use Rattle.recovery_laws.proofs.Likes.{orderly_flushed}
use Rattle.recovery_laws.proofs.Lists.{flush_cases, flushed_here as is_here, flushed_there as is_there}
use Rattle.seq_accounting.specs.Marks.{FamilyMark, number_of}
use Rattle.seq_accounting.specs.Accounts.{ClosedFile, flushed_at, unflushed}
use Rattle.log_trucks.specs.Held.{Held}
use Rattle.log_trucks.specs.Unflushed.{has_unflushed}
use Rattle.log_ledger.specs.History.{ClosedLog, History, flushed_in, with_logs}
use Rattle.log_ledger.specs.Numbers.{Numbers, IsServed, AreInOrder}
use Rattle.log_ledger.specs.Counted.{IsHighest, AreCounted, CarriesUnflushed, IsUnflushedEntry, IsCounted, LogsLeft, note_of}
use Rattle.log_ledger.proofs.Sets.{same_at, set_here, set_there, within}
use Rattle.log_ledger.proofs.Chains.{none_at, truck_of}
use Rattle.log_ledger.proofs.Filters.{in_filter, to_filter}
use Rattle.log_ledger.proofs.Families.{entry_above, above_entry}
use Rattle.log_ledger.proofs.Logs.{counted_logs, counted_length, IsTested, Sieved, sieved}
use Rattle.log_ledger.proofs.Steps.{FlushedBy, ForgottenBy, flushed_same, flushed_here, flushed_there}

-- an entry of the region of which a family isn't flushed has a truck, and so a sequence id above the stored one, up to the last one staged
pub unflushed_bound : (b : Numbers) (h : History) (r : ℕ) → AreInOrder b → CarriesUnflushed h.kept r (get_or b.chains r [])
    → (e : Entry) → Contains (h.kept.durable ++ h.kept.staged) e → e.region ≡ r → IsUnflushedEntry h.kept e → (get_or b.stored r 0 < e.number) × (e.number ≤ get_or b.drawn r 0)
unflushed_bound b h r order carries e has region above =
    let t = truck_of (get_or b.chains r []) carries.entries carries.held e ((carries.each e).1 (has, region, above)) in
    let is = (order.regions r).chain.numbers t.0 t.1 in
    (omega (arith, is.0, t.2), omega (arith, is.1, t.2))

apart_filter : (p : Entry → Bool) (es : List Entry) → AreApart es → AreApart (filter p es)
apart_filter p [] apart = tt
apart_filter p (e ∷ es) apart = elim (cases_Bool (p e)) as (λ _. AreApart (filter p (e ∷ es))) [
  | inl is ↦ subst AreApart (sym (ap (λ (b : Bool). cond b (e ∷ filter p es) (filter p es)) is)) ((λ d has same. apart.0 d (in_filter p es d has).0 same), apart_filter p es apart.1)
  | inr not ↦ subst AreApart (sym (ap (λ (b : Bool). cond b (e ∷ filter p es) (filter p es)) not)) (apart_filter p es apart.1)
]

module _ (old new : Numbers) (r : ℕ) (family : List ℕ) (h : History) (order : AreInOrder old) (s : FlushedBy old new r family) (served : IsServed old r) (counted : IsCounted old h) (none : h.kept.staged ≡ []) where
  place : r < 65
  place = omega (arith, within old.next_store r served, order.wide.next_store)

  abbrev after : Kept
  after = flushed_to h.kept r family (get_or old.drawn r 0)

  was : (q : ℕ) → IsServed new q → IsServed old q
  was q ours = elim (cases_eq q r) as (λ _. IsServed old q) [
    | inl here ↦ subst (IsServed old) (sym here) served
    | inr other ↦ omega (arith, ours, set_there old.next_store new.next_store r (get_or old.next_store r 0 + 1) q 0 s.next_store other)
  ]

  is_served : (q : ℕ) → IsServed old q → IsServed new q
  is_served q ours = elim (cases_eq q r) as (λ _. IsServed new q) [
    | inl here ↦ omega (arith, set_here old.next_store new.next_store r (get_or old.next_store r 0 + 1) q 0 s.next_store (omega (arith, place, order.wide.next_store)) here)
    | inr other ↦ omega (arith, ours, set_there old.next_store new.next_store r (get_or old.next_store r 0 + 1) q 0 s.next_store other)
  ]

  -- the accounts say what is kept
  told : (q : ℕ) (f : List ℕ) → IsServed old q → flushed_at new.accounts q f ≡ after.flushed q f
  told q f ours = elim (flush_cases r family q f) as (λ _. flushed_at new.accounts q f ≡ after.flushed q f) [
    | inl hit ↦ flushed_here old.accounts new.accounts r family (get_or old.drawn r 0) s.flushed q f hit.0 hit.1 ∙ sym (is_here h.kept r family (get_or old.drawn r 0) q f hit.0 hit.1)
    | inr other ↦ flushed_there old.accounts new.accounts r family (get_or old.drawn r 0) s.flushed q f other ∙ counted.flushed q f ours ∙ sym (is_there h.kept r family (get_or old.drawn r 0) q f other)
  ]

  -- what is flushed of no family falls
  raised : (q : ℕ) (f : List ℕ) → IsServed old q → h.kept.flushed q f ≤ after.flushed q f
  raised q f ours = elim (flush_cases r family q f) as (λ _. h.kept.flushed q f ≤ after.flushed q f) [
    | inl hit ↦ omega (arith, is_here h.kept r family (get_or old.drawn r 0) q f hit.0 hit.1, counted.flushed q f ours, (order.regions q).durable f, (order.regions q).synced, ap (λ (k : ℕ). get_or old.drawn k 0) hit.0)
    | inr other ↦ omega (arith, is_there h.kept r family (get_or old.drawn r 0) q f other)
  ]

  serves : (e : Entry) → Contains (h.kept.durable ++ h.kept.staged) e → IsServed old e.region
  serves e has = counted.ours e (inr (subst (λ (l : List Entry). Contains l e) (ap (λ (l : List Entry). h.kept.durable ++ l) none ∙ append-nil h.kept.durable) has))

  carries_left : CarriesUnflushed after r s.chains.now
  carries_left = let carries = counted.chains r served in record {
    entries = filter (has_unflushed new.accounts r) carries.entries;
    held = s.chains.has carries.entries carries.held;
    apart = apart_filter (has_unflushed new.accounts r) carries.entries carries.apart;
    each = λ e. (forth e, back e);
  }
    where
      forth : (e : Entry) → Contains (filter (has_unflushed new.accounts r) (counted.chains r served).entries) e → Contains (h.kept.durable ++ h.kept.staged) e × (e.region ≡ r) × IsUnflushedEntry after e
      forth e has =
          let found = in_filter (has_unflushed new.accounts r) (counted.chains r served).entries e has in
          let old_one = ((counted.chains r served).each e).0 found.0 in
          let f = entry_above new.accounts r e found.1 in
          (old_one.0, old_one.1, (f.0, f.1, omega (arith, f.2, told r f.0 served, ap (λ (q : ℕ). after.flushed q f.0) old_one.1)))

      back : (e : Entry) → Contains (h.kept.durable ++ h.kept.staged) e × (e.region ≡ r) × IsUnflushedEntry after e → Contains (filter (has_unflushed new.accounts r) (counted.chains r served).entries) e
      back e is =
          let f = is.2 in
          let at : after.flushed e.region f.0 ≡ after.flushed r f.0 = ap (λ (q : ℕ). after.flushed q f.0) is.1 in
          to_filter (has_unflushed new.accounts r) (counted.chains r served).entries e
          (((counted.chains r served).each e).1 (is.0, is.1, (f.0, f.1, omega (arith, f.2, raised e.region f.0 (serves e is.0)))))
          (above_entry new.accounts r e f.0 f.1 (omega (arith, f.2, told r f.0 served, at)))

  carries_other : (q : ℕ) → (q ≡ r → ⊥) → (chain : List Held) → CarriesUnflushed h.kept q chain → CarriesUnflushed after q chain
  carries_other q other chain carries = record {
    entries = carries.entries;
    held = carries.held;
    apart = carries.apart;
    each = λ e. (
      λ has. let is = (carries.each e).0 has in
          (is.0, is.1, (is.2.0, is.2.1, omega (arith, is.2.2, is_there h.kept r family (get_or old.drawn r 0) e.region is.2.0 (λ same for. other (sym is.1 ∙ sym same))))),
      λ is. (carries.each e).1
          (is.0, is.1, (is.2.0, is.2.1, omega (arith, is.2.2, is_there h.kept r family (get_or old.drawn r 0) e.region is.2.0 (λ same for. other (sym is.1 ∙ sym same))))),
    );
  }

  -- up to the stored sequence id all is flushed
  stored : (e : Entry) (f : List ℕ) → Contains h.kept.durable e → HasFamily e f → e.number ≤ get_or new.stored e.region 0 → e.number ≤ after.flushed e.region f
  stored e f has of below = by family refl
    where
      ours : IsServed old e.region
      ours = counted.ours e (inr has)

      kept : get_or new.stored e.region 0 ≡ get_or old.stored e.region 0 → e.number ≤ after.flushed e.region f
      kept same = omega (arith, counted.stored e f has of (omega (arith, below, same)), raised e.region f ours)

      by : (g : List ℕ) → family ≡ g → e.number ≤ after.flushed e.region f
      by [] all = elim (cases_eq e.region r) as (λ _. e.number ≤ after.flushed e.region f) [
        | inl here ↦ omega (
          arith,
          below,
          set_here old.stored new.stored r (get_or old.drawn r 0) e.region 0 (s.stored_all all) (omega (arith, place, order.wide.stored)) here,
          is_here h.kept r family (get_or old.drawn r 0) e.region f (sym here) (inl all),
        )
        | inr other ↦ kept (set_there old.stored new.stored r (get_or old.drawn r 0) e.region 0 (s.stored_all all) other)
      ]
      by (x ∷ xs) some = kept (same_at old.stored new.stored e.region 0 (s.stored_one (λ all. absurd (cc (some, all)))))

  pub counted_flushed : IsCounted new (flushed_in h r family (get_or old.drawn r 0))
  counted_flushed = record {
    synced = λ q ours. same_at old.synced new.synced q 0 s.synced ∙ counted.synced q (was q ours);
    drawn = λ q ours. same_at old.drawn new.drawn q 0 s.drawn ∙ counted.drawn q (was q ours);
    flushed = λ q f ours. told q f (was q ours);
    stored = stored;
    noted = s.history (map note_of (h.kept.durable ++ h.kept.staged)) counted.noted;
    newer = λ e has. omega (arith, same_at old.closed new.closed e.region 0 s.closed, counted.newer e has);
    ours = λ e has. is_served e.region (counted.ours e has);
    given = counted.given;
    current = λ q f. subst (λ (l : List FamilyMark). IsHighest q f (h.current ++ h.kept.staged) (number_of l q f)) (sym (s.flushed.completed.current ∙ s.flushed.started.current)) (counted.current q f);
    logs = subst (λ (cs : List ClosedFile). AreCounted new cs h.logs) (sym (s.flushed.completed.files.closed ∙ s.flushed.started.files.closed)) (counted_logs old new old.accounts.closed h.logs is_served counted.logs);
    chains = λ q ours. elim (cases_eq q r) as (λ _. CarriesUnflushed after q (get_or new.chains q [])) [
      | inl here ↦ subst (λ (k : ℕ). CarriesUnflushed after k (get_or new.chains k [])) (sym here)
          (subst (CarriesUnflushed after r) (sym (set_here old.chains new.chains r s.chains.now r [] s.chains.set (omega (arith, place, order.wide.chains)) refl)) carries_left)
      | inr other ↦ subst (CarriesUnflushed after q) (sym (set_there old.chains new.chains r s.chains.now q [] s.chains.set other)) (carries_other q other (get_or old.chains q []) (counted.chains q (was q ours)))
    ];
    orderly = orderly_flushed h.kept r family (get_or old.drawn r 0) counted.orderly (λ f of. omega (arith, counted.flushed r f served, (order.regions r).durable f, (order.regions r).synced))
        (omega (arith, counted.drawn r served ∙ ap (λ (l : List Entry). lasts (lasts h.kept.first h.kept.durable) l r) none));
  }

-- a flush that found nothing
pub counted_kept : (b : Numbers) (r : ℕ) (h : History) → AreInOrder b → IsServed b r → get_or b.chains r [] ≡ [] → IsCounted b h → IsCounted (record b { stored = set b.stored r (get_or b.synced r 0) }) h
counted_kept b r h order served empty counted = record {
  synced = counted.synced;
  drawn = counted.drawn;
  flushed = counted.flushed;
  stored = λ e f has of below. elim (cases_eq e.region r) as (λ _. e.number ≤ h.kept.flushed e.region f) [
    | inl here ↦ elim (cases_lt (h.kept.flushed e.region f) e.number) as (λ _. e.number ≤ h.kept.flushed e.region f) [
      | inl above ↦ absurd (none_above e f has of here above)
      | inr low ↦ low
    ]
    | inr other ↦ counted.stored e f has of (omega (arith, below, set_there b.stored (set b.stored r (get_or b.synced r 0)) r (get_or b.synced r 0) e.region 0 refl other))
  ];
  noted = counted.noted;
  newer = counted.newer;
  ours = counted.ours;
  given = counted.given;
  current = counted.current;
  logs = counted_logs b (record b { stored = set b.stored r (get_or b.synced r 0) }) b.accounts.closed h.logs (λ q ours. ours) counted.logs;
  chains = counted.chains;
  orderly = counted.orderly;
}
  where
    none_above : (e : Entry) (f : List ℕ) → Contains h.kept.durable e → HasFamily e f → e.region ≡ r → h.kept.flushed e.region f < e.number → ⊥
    none_above e f has of here above =
        let carries = counted.chains r served in
        let there = (carries.each e).1 (Contains-append_left h.kept.durable h.kept.staged e has, here, (f, of, above)) in
        let t = truck_of (get_or b.chains r []) carries.entries carries.held e there in
        none_at t.0 (subst (λ (l : List Held). Contains l t.0) empty t.1)

pub counted_forgotten : (old new : Numbers) (h : History) → ForgottenBy old new → ((c : ClosedFile) → Contains old.accounts.closed c → IsTested old c) → IsCounted old h
    → (left : List ClosedLog) × LogsLeft h left × (length new.accounts.closed ≡ length left) × IsCounted new (with_logs h left)
counted_forgotten old new h s tested counted = (
  found.left,
  found.those,
  ap length s.files ∙ counted_length old (unflushed old.accounts) found.left found.counted,
  record {
    synced = λ r served. same_at old.synced new.synced r 0 s.synced ∙ counted.synced r (was r served);
    drawn = λ r served. same_at old.drawn new.drawn r 0 s.drawn ∙ counted.drawn r (was r served);
    flushed = λ r f served. flushed_same old.accounts new.accounts s.keeps.numbers.flushed r f ∙ counted.flushed r f (was r served);
    stored = λ e f has of below. counted.stored e f has of (omega (arith, below, same_at old.stored new.stored e.region 0 s.stored));
    noted = s.keeps.history (map note_of (h.kept.durable ++ h.kept.staged)) counted.noted;
    newer = λ e has. omega (arith, same_at old.closed new.closed e.region 0 s.closed, counted.newer e has);
    ours = λ e has. is_served e.region (counted.ours e has);
    given = counted.given;
    current = λ r f. subst (λ (l : List FamilyMark). IsHighest r f (h.current ++ h.kept.staged) (number_of l r f)) (sym s.current) (counted.current r f);
    logs = subst (λ (cs : List ClosedFile). AreCounted new cs found.left) (sym s.files)
        (counted_logs old new (unflushed old.accounts) found.left is_served found.counted);
    chains = λ r served. subst (CarriesUnflushed h.kept r) (sym (same_at old.chains new.chains r [] s.chains)) (counted.chains r (was r served));
    orderly = counted.orderly;
  },
)
  where
    found : Sieved old h.kept.flushed old.accounts.closed h.logs
    found = sieved old h.kept.flushed counted.flushed old.accounts.closed h.logs tested counted.logs

    was : (r : ℕ) → IsServed new r → IsServed old r
    was r served = omega (arith, served, same_at old.next_store new.next_store r 0 s.next_store)

    is_served : (r : ℕ) → IsServed old r → IsServed new r
    is_served r served = omega (arith, served, same_at old.next_store new.next_store r 0 s.next_store)
