-- The numbers once a truck is staged.
use Rattle.std.proofs.Common.{◌≡◌, ◌⊎◌, inl, inr, ℕ, ◌<◌, Bool, cond, ◌==◌, ◌&&◌, List, [], ◌∷◌, ◌++◌, map, length, get_or, Contains, sym, ap, ◌∙◌, subst, arith, append_assoc}
use Rattle.std.proofs.lemmas.Bool.{cases_eq, cases_Bool, eq-eqb, eqb-true}
use Rattle.std.proofs.lemmas.List.{map-append}
use Rattle.std.proofs.lemmas.List.Elements.{Contains-append_left, Contains-push, Contains-push_cases}
use Rattle.log_model.specs.Entry.{Entry}
use Rattle.recovery_laws.specs.Kept.{Kept, lasts, with_staged}
use Rattle.recovery_laws.proofs.Rising.{lasts_here, lasts_other}
use Rattle.recovery_laws.proofs.Likes.{orderly_staged}
use Rattle.log_model.specs.Recovered.{HasFamily}
use Rattle.recovery_laws.proofs.Lists.{first_or_later, is_first, is_later, some_family}
use Rattle.seq_accounting.specs.Marks.{number_of, has_family}
use Rattle.seq_accounting.specs.Accounts.{ClosedFile}
use Rattle.seq_accounting.specs.Noted.{HasNoted}
use Rattle.log_trucks.specs.Held.{Held, Haul, Carries, noted_of, IsHeld}
use Rattle.log_ledger.specs.History.{History, staged_in}
use Rattle.log_ledger.specs.Numbers.{Numbers, IsServed, AreInOrder}
use Rattle.log_ledger.specs.Counted.{IsHighest, AreCounted, CarriesUnflushed, IsUnflushedEntry, IsCounted, note_of}
use Rattle.log_ledger.proofs.Sets.{same_at, set_here, set_there, within}
use Rattle.log_ledger.proofs.Chains.{truck_of}
use Rattle.log_ledger.proofs.Highest.{highest_here, highest_other}
use Rattle.log_ledger.proofs.Logs.{counted_logs}
use Rattle.log_ledger.proofs.Families.{and_both, family_noted, noted_family, noted_as}
use Rattle.log_ledger.proofs.Steps.{StagedBy, flushed_same}

-- one entry more, after those that were current or staged
joined : (h : History) (e : Entry) → (h.current ++ h.kept.staged) ++ e ∷ [] ≡ h.current ++ (h.kept.staged ++ e ∷ [])
joined h e = append_assoc h.current h.kept.staged (e ∷ [])

was_or_is : (h : History) (e d : Entry) → Contains (h.current ++ (h.kept.staged ++ e ∷ [])) d → Contains (h.current ++ h.kept.staged) d ⊎ (e ≡ d)
was_or_is h e d has = Contains-push_cases (h.current ++ h.kept.staged) e d (subst (λ (l : List Entry). Contains l d) (sym (joined h e)) has)

-- a truck in front of a chain whose entries have lower sequence ids
pub carries_more : (k : Kept) (e : Entry) (r : ℕ) (x : Held) (chain : List Held) → CarriesUnflushed k r chain → e.region ≡ r → IsHeld x e
    → ((y : Held) → Contains chain y → y.number < e.number) → IsUnflushedEntry k e → CarriesUnflushed (with_staged k e) r (x ∷ chain)
carries_more k e r x chain carries here held below above = record {
  entries = e ∷ carries.entries;
  held = (held, carries.held);
  apart = ((λ d has same. let t = truck_of chain carries.entries carries.held d has in omega (arith, below t.0 t.1, t.2, same)), carries.apart);
  each = λ d. (forth d, back d);
}
  where
    all : (k.durable ++ k.staged) ++ e ∷ [] ≡ k.durable ++ (k.staged ++ e ∷ [])
    all = append_assoc k.durable k.staged (e ∷ [])

    forth : (d : Entry) → Contains (e ∷ carries.entries) d → Contains (k.durable ++ (k.staged ++ e ∷ [])) d × (d.region ≡ r) × IsUnflushedEntry k d
    forth d has = elim (first_or_later e carries.entries d has) as (λ _. Contains (k.durable ++ (k.staged ++ e ∷ [])) d × (d.region ≡ r) × IsUnflushedEntry k d) [
      | inl is ↦ subst (λ (y : Entry). Contains (k.durable ++ (k.staged ++ e ∷ [])) y × (y.region ≡ r) × IsUnflushedEntry k y) is
          (subst (λ (l : List Entry). Contains l e) all (Contains-push (k.durable ++ k.staged) e), here, above)
      | inr later ↦ (let old = (carries.each d).0 later in
          (subst (λ (l : List Entry). Contains l d) all (Contains-append_left (k.durable ++ k.staged) (e ∷ []) d old.0), old.1, old.2))
    ]

    back : (d : Entry) → Contains (k.durable ++ (k.staged ++ e ∷ [])) d × (d.region ≡ r) × IsUnflushedEntry k d → Contains (e ∷ carries.entries) d
    back d is = elim (Contains-push_cases (k.durable ++ k.staged) e d (subst (λ (l : List Entry). Contains l d) (sym all) is.0)) as (λ _. Contains (e ∷ carries.entries) d) [
      | inl old ↦ is_later e carries.entries d ((carries.each d).1 (old, is.1, is.2))
      | inr new ↦ subst (λ (y : Entry). Contains (e ∷ carries.entries) y) new (is_first e carries.entries)
    ]

-- the chains of other regions stay
pub carries_on : (k : Kept) (e : Entry) (r : ℕ) (chain : List Held) → CarriesUnflushed k r chain → (e.region ≡ r → ⊥) → CarriesUnflushed (with_staged k e) r chain
carries_on k e r chain carries other = record { entries = carries.entries; held = carries.held; apart = carries.apart; each = λ d. (forth d, back d) }
  where
    all : (k.durable ++ k.staged) ++ e ∷ [] ≡ k.durable ++ (k.staged ++ e ∷ [])
    all = append_assoc k.durable k.staged (e ∷ [])

    forth : (d : Entry) → Contains carries.entries d → Contains (k.durable ++ (k.staged ++ e ∷ [])) d × (d.region ≡ r) × IsUnflushedEntry k d
    forth d has = let old = (carries.each d).0 has in (subst (λ (l : List Entry). Contains l d) all (Contains-append_left (k.durable ++ k.staged) (e ∷ []) d old.0), old.1, old.2)

    back : (d : Entry) → Contains (k.durable ++ (k.staged ++ e ∷ [])) d × (d.region ≡ r) × IsUnflushedEntry k d → Contains carries.entries d
    back d is = elim (Contains-push_cases (k.durable ++ k.staged) e d (subst (λ (l : List Entry). Contains l d) (sym all) is.0)) as (λ _. Contains carries.entries d) [
      | inl old ↦ (carries.each d).1 (old, is.1, is.2)
      | inr new ↦ absurd (other (ap (λ (y : Entry). y.region) new ∙ is.1))
    ]

pub counted_staged : (old new : Numbers) (t : Haul) (h : History) (e : Entry) → AreInOrder old → StagedBy old new t → IsServed old t.region → get_or old.drawn t.region 0 < t.number
    → IsCounted old h → Carries t e → IsCounted new (staged_in h e)
counted_staged old new t h e order s ours above counted carries_it = let is = carries_it.entry in let bytes = carries_it.bytes in let region = carries_it.region in let number = carries_it.number in record {
  synced = λ r served. same_at old.synced new.synced r 0 s.synced ∙ counted.synced r (was r served);
  drawn = λ r served. elim (cases_eq r t.region) as (λ _. get_or new.drawn r 0 ≡ lasts (lasts h.kept.first h.kept.durable) (h.kept.staged ++ e ∷ []) r) [
    | inl here ↦ set_here old.drawn new.drawn t.region t.number r 0 s.drawn drawn_place here ∙ sym number
        ∙ sym (ap (lasts (lasts h.kept.first h.kept.durable) (h.kept.staged ++ e ∷ [])) (here ∙ sym region) ∙ lasts_here (lasts h.kept.first h.kept.durable) h.kept.staged e)
    | inr other ↦ set_there old.drawn new.drawn t.region t.number r 0 s.drawn other ∙ counted.drawn r (was r served)
        ∙ sym (lasts_other (lasts h.kept.first h.kept.durable) h.kept.staged e r (λ same. other (sym same ∙ region)))
  ];
  flushed = λ r f served. flushed_same old.accounts new.accounts s.noted.flushed r f ∙ counted.flushed r f (was r served);
  stored = λ d f has of below. counted.stored d f has of (omega (arith, below, same_at old.stored new.stored d.region 0 s.stored));
  noted = subst (HasNoted new.accounts) (sym (map-append note_of (h.kept.durable ++ h.kept.staged) (e ∷ [])) ∙ ap (map note_of) (append_assoc h.kept.durable h.kept.staged (e ∷ [])))
      (s.history (map note_of (h.kept.durable ++ h.kept.staged)) (note_of e) (noted_as t e carries_it) counted.noted);
  newer = λ d has. elim (was_or_is h e d has) as (λ _. get_or new.closed d.region 0 < d.number) [
    | inl before ↦ omega (arith, same_at old.closed new.closed d.region 0 s.closed, counted.newer d before)
    | inr same ↦ newest d same
  ];
  ours = λ d has. is_served d.region (elim has as (λ _. IsServed old d.region) [
    | inl current ↦ (elim (was_or_is h e d current) as (λ _. IsServed old d.region) [
      | inl before ↦ counted.ours d (inl before)
      | inr same ↦ subst (IsServed old) (sym region ∙ ap (λ (y : Entry). y.region) same) ours
    ])
    | inr durable ↦ counted.ours d (inr durable)
  ]);
  given = λ d has. elim (was_or_is h e d has) as (λ _. (f : List ℕ) × HasFamily d f) [
    | inl before ↦ counted.given d before
    | inr same ↦ subst (λ (y : Entry). (f : List ℕ) × HasFamily y f) same (some_family e is.batch.given)
  ];
  current = λ r f. subst (λ (l : List Entry). IsHighest r f l (number_of new.accounts.current r f)) (joined h e) (current_more r f);
  logs = subst (λ (cs : List ClosedFile). AreCounted new cs h.logs) (sym s.noted.files.closed) (counted_logs old new old.accounts.closed h.logs is_served counted.logs);
  chains = λ r served. elim (cases_eq r t.region) as (λ _. CarriesUnflushed (with_staged h.kept e) r (get_or new.chains r [])) [
    | inl here ↦ subst (CarriesUnflushed (with_staged h.kept e) r) (sym (set_here old.chains new.chains t.region (noted_of t ∷ get_or old.chains t.region []) r [] s.chains chain_place here))
        (carries_more h.kept e r (noted_of t) (get_or old.chains t.region []) (subst (λ (q : ℕ). CarriesUnflushed h.kept r (get_or old.chains q [])) here (counted.chains r (was r served))) (region ∙ sym here)
        (record { region = sym region; number = sym number; bytes = bytes; entry = is })
        (λ y has. omega (arith, ((order.regions t.region).chain.numbers y has).1, above, number))
        (let f = some_family e is.batch.given in
        (f.0, f.1, omega (arith, counted.flushed e.region f.0 (subst (IsServed old) (sym region) ours), (order.regions e.region).durable f.0, (order.regions e.region).synced, ap (λ q. get_or old.drawn q 0) region, above, number))))
    | inr other ↦ subst (CarriesUnflushed (with_staged h.kept e) r) (sym (set_there old.chains new.chains t.region (noted_of t ∷ get_or old.chains t.region []) r [] s.chains other))
        (carries_on h.kept e r (get_or old.chains r []) (counted.chains r (was r served)) (λ same. other (sym same ∙ region)))
  ];
  orderly = orderly_staged h.kept e counted.orderly (omega (arith, counted.drawn e.region (subst (IsServed old) (sym region) ours), ap (λ q. get_or old.drawn q 0) region, above, number));
}
  where
    was : (r : ℕ) → IsServed new r → IsServed old r
    was r served = omega (arith, served, same_at old.next_store new.next_store r 0 s.next_store)

    is_served : (r : ℕ) → IsServed old r → IsServed new r
    is_served r served = omega (arith, served, same_at old.next_store new.next_store r 0 s.next_store)

    place : t.region < 65
    place = omega (arith, within old.next_store t.region ours, order.wide.next_store)

    drawn_place : t.region < length old.drawn
    drawn_place = omega (arith, place, order.wide.drawn)

    chain_place : t.region < length old.chains
    chain_place = omega (arith, place, order.wide.chains)

    newest : (d : Entry) → e ≡ d → get_or new.closed d.region 0 < d.number
    newest d same = subst (λ (y : Entry). get_or new.closed y.region 0 < y.number) same
        (omega (arith, same_at old.closed new.closed e.region 0 s.closed, ap (λ q. get_or old.closed q 0) carries_it.region, (order.regions t.region).closed, (order.regions t.region).synced, above, carries_it.number))

    current_more : (r : ℕ) (f : List ℕ) → IsHighest r f ((h.current ++ h.kept.staged) ++ e ∷ []) (number_of new.accounts.current r f)
    current_more r f = subst (IsHighest r f ((h.current ++ h.kept.staged) ++ e ∷ [])) (sym (s.noted.current r f)) (elim (cases_Bool (t.region == r && has_family t.families f)) as
        (λ _. IsHighest r f ((h.current ++ h.kept.staged) ++ e ∷ []) (cond (t.region == r && has_family t.families f) t.number (number_of old.accounts.current r f))) [
          | inl hit ↦ subst (IsHighest r f ((h.current ++ h.kept.staged) ++ e ∷ [])) (carries_it.number ∙ sym (ap (λ (b : Bool). cond b t.number (number_of old.accounts.current r f)) hit))
              (let both = and_both (t.region == r) (has_family t.families f) hit in
              let here : t.region ≡ r = eqb-true t.region r both.0 in
              highest_here r f (number_of old.accounts.current r f) (h.current ++ h.kept.staged) e (counted.current r f) (carries_it.region ∙ here) (noted_family e f (sym (carries_it.families f) ∙ both.1))
              (omega (arith, (order.accounts.regions r).current_noted f, (order.regions r).noted, ap (λ q. get_or old.drawn q 0) here, above, carries_it.number)))
          | inr miss ↦ subst (IsHighest r f ((h.current ++ h.kept.staged) ++ e ∷ [])) (sym (ap (λ (b : Bool). cond b t.number (number_of old.accounts.current r f)) miss))
              (highest_other r f (number_of old.accounts.current r f) (h.current ++ h.kept.staged) e (counted.current r f)
              (λ here of. absurd (cc (sym miss ∙ (ap (λ (b : Bool). b && has_family t.families f) (eq-eqb t.region r (sym carries_it.region ∙ here)) ∙ (carries_it.families f ∙ family_noted e f of))))))
        ])
