-- A store that appears with all that its region had not flushed up to its last number changes nothing of what recovers.
use Rattle.std.proofs.Common.{◌≡◌, ◌⊎◌, inl, inr, ℕ, ◌<◌, ◌≤◌, List, Some, refl, sym, ap, ◌∙◌, subst, arith}
use Rattle.std.proofs.lemmas.Bool.{cases_lt}
use Rattle.cell_model.specs.Order.{VersionKey, Payload}
use Rattle.log_model.specs.declared.name.Name.{Name}
use Rattle.log_model.specs.Entry.{Entry}
use Rattle.log_model.specs.StoreText.{Store, IsStoreText}
use Rattle.log_model.specs.Files.{Files, IsLogged, IsStoreFile, IsFit}
use Rattle.log_model.specs.Recovered.{Holds, IsFor, IsCounting, IsSeen, IsStored, IsUnflushed, IsRecovered, RecoversAlike}
use Rattle.recovery_laws.specs.Laws.{Appears}
use Rattle.recovery_laws.proofs.Names.{name_cases}
use Rattle.recovery_laws.proofs.Contents.{puts_number}
use Rattle.recovery_laws.proofs.Numbers.{held_range}
use Rattle.recovery_laws.proofs.OneStore.{one_store}
use Rattle.recovery_laws.proofs.Lists.{flush_cases}
use Rattle.recovery_laws.proofs.Stores.{Counts, flushes_by, held_family}
use Rattle.recovery_laws.proofs.Lasts.{same_last}
use Rattle.recovery_laws.proofs.Flushed.{log_same, logs_kept, logs_were, store_still, was_counting, old_counts, new_counts}

same_bytes : (x y : List ℕ) → Some x ≡ Some y → x ≡ y
same_bytes x y e = cc e

module _ {name : Name} {s : Store} {I J : Files} (a : Appears name s I J) where
  now_logged : (e : Entry) → IsLogged I e → IsLogged J e
  now_logged e h = logs_kept name a.kind I J a.others e h

  was_logged : (e : Entry) → IsLogged J e → IsLogged I e
  was_logged e h = logs_were name a.kind I J a.others e h

  still : (r : ℕ) (n : Name) (t : Store) → IsStoreFile I r n t → IsStoreFile J r n t
  still r n t f = store_still name a.kind I J a.others a.before r n t f

  only_one : (t : Store) → IsStoreFile J name.region name t → t ≡ s
  only_one t f = one_store name.region f.bytes t s f.text (subst (λ (b : List ℕ). IsStoreText name.region b s) (same_bytes a.after.bytes f.bytes (sym a.after.there ∙ f.there)) a.after.text)

  counting_was : (q : ℕ) (m : Name) (t : Store) → IsCounting J q m t → ((m ≡ name) × (q ≡ name.region) × (t ≡ s)) ⊎ IsCounting I q m t
  counting_was = was_counting name a.kind I J a.others a.before s a.after a.scope a.stands only_one

  counts : Counts I J
  counts = old_counts name a.kind I J a.others a.before s a.after a.scope a.stands only_one

  counting : IsCounting J name.region name s
  counting = new_counts name a.kind I J a.others a.before s a.after a.scope a.stands only_one

  -- what an old store of the region holds, the new one doesn't
  apart : (m : Name) (t : Store) (v : VersionKey) (x y : Payload) → IsCounting I name.region m t → Holds t v x → Holds s v y → ⊥
  apart m t v x y c old new =
      let u = ((a.holds v y).0 new).0 in
      omega (arith, (held_range name.region c.file.bytes t v x c.file.text old).1, u.above t.to (m, t, c, held_family name.region c.file.bytes t v x c.file.text old, refl), puts_number u.entry v y u.puts)

  stored_now : (r : ℕ) (v : VersionKey) (p : Payload) → IsStored I r v p → IsStored J r v p
  stored_now r v p st = record {
    name = st.name;
    store = st.store;
    file = counts r st.name st.store st.file;
    holds = st.holds;
    newest = λ other t x c h. elim (counting_was r other t c) as (λ _. other.number ≤ st.name.number) [
      | inl new ↦ absurd (apart st.name st.store v p x (subst (λ (q : ℕ). IsCounting I q st.name st.store) new.1 st.file) st.holds (subst (λ (k : Store). Holds k v x) new.2 h))
      | inr old ↦ st.newest other t x old h
    ];
  }

  shown : (v : VersionKey) (p : Payload) → Holds s v p → IsStored J name.region v p
  shown v p held = record {
    name = name;
    store = s;
    file = counting;
    holds = held;
    newest = λ other t x c h. elim (counting_was name.region other t c) as (λ _. other.number ≤ name.number) [
      | inl new ↦ (let at : other.number ≡ name.number = ap (λ (n : Name). n.number) new.0 in omega (arith, at))
      | inr old ↦ absurd (apart other t v x p old h held)
    ];
  }

  -- it stays unflushed, where the new store doesn't hold it
  unflushed_now : (r : ℕ) (v : VersionKey) (p : Payload) (u : IsUnflushed I r v p) → (r ≡ name.region → IsFor s.family v.key.family → s.to < v.number) → IsUnflushed J r v p
  unflushed_now r v p u past = record {
    entry = u.entry;
    logged = now_logged u.entry u.logged;
    region = u.region;
    above = λ n f. elim (counting_was r f.0 f.1 f.2) as (λ _. n < u.entry.number) [
      | inl new ↦
          let to : f.1.to ≡ s.to = ap (λ (t : Store). t.to) new.2 in
          omega (arith, past new.1 (subst (λ (t : Store). IsFor t.family v.key.family) new.2 f.3), to, f.4, puts_number u.entry v p u.puts)
      | inr old ↦ u.above n (f.0, f.1, old, f.3, f.4)
    ];
    puts = u.puts;
  }

  recovered_now : (r : ℕ) (v : VersionKey) (p : Payload) → IsRecovered I r v p → IsRecovered J r v p
  recovered_now r v p (inl st) = inl (stored_now r v p st)
  recovered_now r v p (inr u) = elim (flush_cases name.region s.family r v.key.family) as (λ _. IsRecovered J r v p) [
    | inl hit ↦ elim (cases_lt s.to v.number) as (λ _. IsRecovered J r v p) [
      | inl past ↦ inr (unflushed_now r v p u (λ _ _. past))
      | inr up_to ↦ subst (λ (q : ℕ). IsRecovered J q v p) hit.0 (inl (shown v p ((a.holds v p).1 (subst (λ (q : ℕ). IsUnflushed I q v p) (sym hit.0) u, up_to, hit.1))))
    ]
    | inr miss ↦ inr (unflushed_now r v p u (λ here for. absurd (miss (sym here) for)))
  ]

  recovered_was : (r : ℕ) (v : VersionKey) (p : Payload) → IsRecovered J r v p → IsRecovered I r v p
  recovered_was r v p (inl st) = elim (counting_was r st.name st.store st.file) as (λ _. IsRecovered I r v p) [
    | inl new ↦ subst (λ (q : ℕ). IsRecovered I q v p) (sym new.1) (inr ((a.holds v p).0 (subst (λ (t : Store). Holds t v p) new.2 st.holds)).0)
    | inr old ↦ inl (record { name = st.name; store = st.store; file = old; holds = st.holds; newest = λ other t x c h. st.newest other t x (counts r other t c) h })
  ]
  recovered_was r v p (inr u) = inr (record { entry = u.entry; logged = was_logged u.entry u.logged; region = u.region; above = λ n f. u.above n (flushes_by I J counts r v.key.family n f); puts = u.puts })

  seen_now : (r m : ℕ) → IsSeen I r m → (n : ℕ) × IsSeen J r n × (m ≤ n)
  seen_now r m (inl f) = (m, inl (f.0, f.1, counts r f.0 f.1 f.2, f.3), omega arith)
  seen_now r m (inr (e, logged, region, number)) = (m, inr (e, now_logged e logged, region, number), omega arith)

  seen_was : (r m : ℕ) → IsSeen J r m → (n : ℕ) × IsSeen I r n × (m ≤ n)
  seen_was r m (inl f) = elim (counting_was r f.0 f.1 f.2) as (λ _. (n : ℕ) × IsSeen I r n × (m ≤ n)) [
    | inl new ↦
        let to : f.1.to ≡ s.to = ap (λ (t : Store). t.to) new.2 in
        (a.reached.0, subst (λ (q : ℕ). IsSeen I q a.reached.0) (sym new.1) a.reached.1, omega (arith, to, f.3, a.reached.2))
    | inr old ↦ (m, inl (f.0, f.1, old, f.3), omega arith)
  ]
  seen_was r m (inr (e, logged, region, number)) = (m, inr (e, was_logged e logged, region, number), omega arith)

  fit_now : IsFit I → IsFit J
  fit_now fit = record {
    logs = λ m bytes holds at.
        let f = fit.logs m bytes holds (sym (log_same name a.kind I J a.others m holds) ∙ at) in
        (f.0, record { kind = f.1.kind; bytes = f.1.bytes; there = log_same name a.kind I J a.others m holds ∙ f.1.there; ended = f.1.ended; text = f.1.text });
    stores = λ m bytes store at gate. elim (name_cases m name) as (λ _. (t : Store) × IsStoreFile J m.region m t) [
      | inl is ↦ subst (λ (x : Name). (t : Store) × IsStoreFile J x.region x t) (sym is) (s, a.after)
      | inr other ↦ (let f = fit.stores m bytes store (sym (a.others m other) ∙ at) gate in (f.0, still m.region m f.0 f.1))
    ];
    agree = λ d e hd he region number. fit.agree d e (was_logged d hd) (was_logged e he) region number;
  }

  pub recovered_by_store : IsFit I → (r : ℕ) → RecoversAlike I J r
  recovered_by_store fit r = record {
    fit = fit_now fit;
    content = λ v p. (recovered_now r v p, recovered_was r v p);
    last = λ n. same_last I J r (seen_now r) (seen_was r) n;
  }
