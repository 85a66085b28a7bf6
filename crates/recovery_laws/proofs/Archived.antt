-- A file whose entries are all flushed, or logged elsewhere, may go.
use Rattle.std.proofs.Common.{◌≢◌, ◌⊎◌, inl, inr, ℕ, ◌≤◌, List, Contains, sym, ap, ◌∙◌, subst, arith}
use Rattle.std.specs.FinMap.{get}
use Rattle.log_model.specs.declared.name.Name.{Name}
use Rattle.cell_model.specs.Order.{VersionKey, Payload}
use Rattle.log_model.specs.Entry.{Entry}
use Rattle.log_model.specs.Files.{Files, IsLogged, IsFit}
use Rattle.log_model.specs.Recovered.{HasFamily, IsCounting, IsSeen, FlushesTo, IsRecovered, RecoversAlike}
use Rattle.recovery_laws.specs.Kept.{Kept, IsLike}
use Rattle.recovery_laws.specs.Laws.{Goes, IsFlushedEntry}
use Rattle.recovery_laws.proofs.Names.{store_apart, entries_no_old, store_no_old}
use Rattle.recovery_laws.proofs.Stores.{Counts, SameStores, stores_back, store_kept, counts_kept, flushes_kept, flushed_kept, stored_kept}
use Rattle.recovery_laws.proofs.Logs.{logged_cases, none_some}
use Rattle.recovery_laws.proofs.Contents.{puts_family}
use Rattle.recovery_laws.proofs.Numbers.{logged_family}
use Rattle.recovery_laws.proofs.Lasts.{same_last}

-- a file of entries is gone, and but for old logs nothing else changed
module _ {name : Name} {es : List Entry} {I J : Files} (goes : Goes name es I J) where
  pub stores_same : SameStores I J
  stores_same n store = goes.others n (store_apart n name store goes.kind) (store_no_old n.kind store)

  pub logged_was : (e : Entry) → IsLogged J e → IsLogged I e
  logged_was e h =
      let here : h.name ≢ name = λ at. none_some (get J h.name) h.file.bytes (ap (get J) at ∙ goes.gone) h.file.there in
      record { name = h.name; entries = h.entries; file = record { kind = h.file.kind; bytes = h.file.bytes; there = sym (goes.others h.name here (entries_no_old h.name.kind h.file.kind)) ∙ h.file.there; ended = h.file.ended; text = h.file.text }; member = h.member }

  pub logged_still : (e : Entry) → IsLogged I e → Contains es e ⊎ IsLogged J e
  logged_still e h = elim (logged_cases I name es goes.had e h) as (λ _. Contains es e ⊎ IsLogged J e) [
    | inl here ↦ inl here
    | inr there ↦ inr (record { name = there.other; entries = there.entries; file = record { kind = there.file.kind; bytes = there.file.bytes; there = goes.others there.other there.apart (entries_no_old there.other.kind there.file.kind) ∙ there.file.there; ended = there.file.ended; text = there.file.text }; member = there.member })
  ]

  pub fit_still : IsFit I → IsFit J
  fit_still fit = record {
    logs = λ n bytes holds there.
        let here : n ≢ name = λ at. none_some (get J n) bytes (ap (get J) at ∙ goes.gone) there in
        let as_was = goes.others n here (entries_no_old n.kind holds) in
        let f = fit.logs n bytes holds (sym as_was ∙ there) in
        (f.0, record { kind = f.1.kind; bytes = f.1.bytes; there = as_was ∙ f.1.there; ended = f.1.ended; text = f.1.text });
    stores = λ n bytes store there gate. let f = fit.stores n bytes store (sym (stores_same n store) ∙ there) gate in (f.0, store_kept I J stores_same n.region n f.0 f.1);
    agree = λ d e hd he region number. fit.agree d e (logged_was d hd) (logged_was e he) region number;
  }

  -- its entries are flushed
  pub archived : (k : Kept) → ((e : Entry) (f : List ℕ) → Contains es e → HasFamily e f → e.number ≤ k.flushed e.region f) → IsLike k I → IsLike k J
  archived k flushed like = record {
    fit = fit_still like.fit;
    flushed = λ r f. flushed_kept I J stores_same r f (k.flushed r f) (like.flushed r f);
    stored = λ r v p. (λ h. (like.stored r v p).0 (stored_kept J I (stores_back I J stores_same) r v p h), λ h. stored_kept I J stores_same r v p ((like.stored r v p).1 h));
    sure = λ e f member has above. elim (logged_still e (like.sure e f member has above)) as (λ _. IsLogged J e) [ inl here ↦ absurd (omega (arith, above, flushed e f here has)) | inr still ↦ still ];
    only = λ e f logged has above. like.only e f (logged_was e logged) has (λ n h. above n (flushes_kept I J stores_same e.region f n h));
    numbers = λ e logged. like.numbers e (logged_was e logged);
  }

  -- each of its entries is flushed, or logged elsewhere
  module _ (covered : (e : Entry) → Contains es e → IsLogged J e ⊎ IsFlushedEntry I e) where
    now_logged : (e : Entry) → IsLogged I e → IsLogged J e ⊎ IsFlushedEntry I e
    now_logged e h = elim (logged_still e h) as (λ _. IsLogged J e ⊎ IsFlushedEntry I e) [ inl here ↦ covered e here | inr still ↦ inl still ]

    flushes_now : (r : ℕ) (f : List ℕ) (n : ℕ) → FlushesTo I r f n → FlushesTo J r f n
    flushes_now = flushes_kept I J stores_same

    flushes_was : (r : ℕ) (f : List ℕ) (n : ℕ) → FlushesTo J r f n → FlushesTo I r f n
    flushes_was = flushes_kept J I (stores_back I J stores_same)

    counts_now : Counts I J
    counts_now = counts_kept I J stores_same

    counts_was : Counts J I
    counts_was = counts_kept J I (stores_back I J stores_same)

    recovered_now : (r : ℕ) (v : VersionKey) (p : Payload) → IsRecovered I r v p → IsRecovered J r v p
    recovered_now r v p (inl st) = inl (stored_kept I J stores_same r v p st)
    recovered_now r v p (inr u) = elim (now_logged u.entry u.logged) as (λ _. IsRecovered J r v p) [
      | inl still ↦ inr (record { entry = u.entry; logged = still; region = u.region; above = λ n f. u.above n (flushes_was r v.key.family n f); puts = u.puts })
      | inr flushed ↦ (let g = flushed v.key.family (puts_family u.entry v p u.puts) in absurd (omega (arith, g.2, u.above g.0 (subst (λ (q : ℕ). FlushesTo I q v.key.family g.0) u.region g.1))))
    ]

    recovered_was : (r : ℕ) (v : VersionKey) (p : Payload) → IsRecovered J r v p → IsRecovered I r v p
    recovered_was r v p (inl st) = inl (stored_kept J I (stores_back I J stores_same) r v p st)
    recovered_was r v p (inr u) = inr (record { entry = u.entry; logged = logged_was u.entry u.logged; region = u.region; above = λ n f. u.above n (flushes_now r v.key.family n f); puts = u.puts })

    seen_was : (r m : ℕ) → IsSeen J r m → IsSeen I r m
    seen_was r m (inl f) = inl (f.0, f.1, counts_was r f.0 f.1 f.2, f.3)
    seen_was r m (inr (e, logged, region, number)) = inr (e, logged_was e logged, region, number)

    -- what was seen is seen, or something above it
    seen_now : (r m : ℕ) → IsSeen I r m → (n : ℕ) × IsSeen J r n × (m ≤ n)
    seen_now r m (inl f) = (m, inl (f.0, f.1, counts_now r f.0 f.1 f.2, f.3), omega arith)
    seen_now r m (inr (e, logged, region, number)) = elim (now_logged e logged) as (λ _. (n : ℕ) × IsSeen J r n × (m ≤ n)) [
      | inl still ↦ (m, inr (e, still, region, number), omega arith)
      | inr flushed ↦ (let some = logged_family I e logged in let g = flushed some.0 some.1 in
          (g.0, inl (g.1.0, g.1.1, counts_now r g.1.0 g.1.1 (subst (λ (q : ℕ). IsCounting I q g.1.0 g.1.1) region g.1.2), g.1.4), omega (arith, number, g.2)))
    ]

    pub recovered_without : IsFit I → (r : ℕ) → RecoversAlike I J r
    recovered_without fit r = record {
      fit = fit_still fit;
      content = λ v p. (recovered_now r v p, recovered_was r v p);
      last = λ n. same_last I J r (seen_now r) (λ m s. (m, seen_was r m s, omega arith)) n;
    }
