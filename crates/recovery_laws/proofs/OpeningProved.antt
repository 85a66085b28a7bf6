-- The steps of an opening.
use Rattle.std.proofs.Common.{◌≡◌, ◌≢◌, ◌⊎◌, inl, inr, ℕ, ◌≤◌, List, Contains, sym, ap, ◌∙◌, arith}
use Rattle.std.specs.FinMap.{get}
use Rattle.cell_model.specs.Order.{VersionKey, Payload}
use Rattle.log_model.specs.declared.name.Name.{Name}
use Rattle.log_model.specs.declared.name.NameKind.TheVariants as kinds
use Rattle.log_model.specs.Entry.{Entry}
use Rattle.log_model.specs.StoreText.{Store}
use Rattle.log_model.specs.Files.{IsLogFile, IsLogged, IsStoreFile}
use Rattle.log_model.specs.Recovered.{IsSeen, IsUnflushed, IsRecovered}
use Rattle.recovery_laws.specs.Laws.{Appears, IsFlushedEntry}
use Rattle.recovery_laws.proofs.Numbers.{held_range}
use Rattle.recovery_laws.proofs.Stores.{Counts, stores_back, store_kept, counts_kept, flushes_kept, flushes_by, stored_by}
use Rattle.recovery_laws.proofs.Archived.{stores_same}
use Rattle.recovery_laws.proofs.Lasts.{same_last}
use Rattle.recovery_laws.proofs.Flushed.{log_same, logs_kept, logs_were, other_was, store_still}
use Rattle.recovery_laws.proofs.Proved.{copies_alike, store_alike, gone_alike}
use Rattle.recovery_laws.specs.OpeningLaws.{HiddenStoreIsNothing, ReplayChangesNothing, KeptFileMayGo, CopiesChangeNothing}
use Rattle.recovery_laws.proofs.Turns.{in_turn, unflushed_too}

pub hidden : HiddenStoreIsNothing
hidden I J name h fit r = record {
  fit = record {
    logs = λ n bytes holds there. let f = fit.logs n bytes holds (sym (log_same name h.kind I J h.others n holds) ∙ there) in (f.0, record { kind = f.1.kind; bytes = f.1.bytes; there = log_same name h.kind I J h.others n holds ∙ f.1.there; ended = f.1.ended; text = f.1.text });
    stores = λ n bytes store there gate.
        let apart : n ≢ name = λ at. h.after bytes (sym (ap (get J) at) ∙ there) gate in
        let f = fit.stores n bytes store (sym (h.others n apart) ∙ there) gate in (f.0, still n.region n f.0 f.1);
    agree = λ d e hd he region number. fit.agree d e (logs_were name h.kind I J h.others d hd) (logs_were name h.kind I J h.others e he) region number;
  };
  content = λ v p. (now v p, past v p);
  last = λ n. same_last I J r seen_now seen_was n;
}
  where
    still : (q : ℕ) (n : Name) (s : Store) → IsStoreFile I q n s → IsStoreFile J q n s
    still q n s f = store_still name h.kind I J h.others h.before q n s f

    was : (q : ℕ) (n : Name) (s : Store) → IsStoreFile J q n s → IsStoreFile I q n s
    was q n s f = other_was name h.kind I J h.others q n s (λ at. h.after f.bytes (sym (ap (get J) at) ∙ f.there) f.gate) f

    counts_now : Counts I J
    counts_now q n s c = record { file = still q n s c.file; stands = λ other t f one. c.stands other t (was q other t f) one }

    counted : Counts J I
    counted q n s c = record { file = was q n s c.file; stands = λ other t f one. c.stands other t (still q other t f) one }

    now : (v : VersionKey) (p : Payload) → IsRecovered I r v p → IsRecovered J r v p
    now v p (inl st) = inl (stored_by I J counts_now counted r v p st)
    now v p (inr u) = inr (record { entry = u.entry; logged = logs_kept name h.kind I J h.others u.entry u.logged; region = u.region; above = λ n f. u.above n (flushes_by J I counted r v.key.family n f); puts = u.puts })

    past : (v : VersionKey) (p : Payload) → IsRecovered J r v p → IsRecovered I r v p
    past v p (inl st) = inl (stored_by J I counted counts_now r v p st)
    past v p (inr u) = inr (record { entry = u.entry; logged = logs_were name h.kind I J h.others u.entry u.logged; region = u.region; above = λ n f. u.above n (flushes_by I J counts_now r v.key.family n f); puts = u.puts })

    seen_now : (m : ℕ) → IsSeen I r m → (n : ℕ) × IsSeen J r n × (m ≤ n)
    seen_now m (inl f) = (m, inl (f.0, f.1, counts_now r f.0 f.1 f.2, f.3), omega arith)
    seen_now m (inr (e, logged, region, number)) = (m, inr (e, logs_kept name h.kind I J h.others e logged, region, number), omega arith)

    seen_was : (m : ℕ) → IsSeen J r m → (n : ℕ) × IsSeen I r n × (m ≤ n)
    seen_was m (inl f) = (m, inl (f.0, f.1, counted r f.0 f.1 f.2, f.3), omega arith)
    seen_was m (inr (e, logged, region, number)) = (m, inr (e, logs_were name h.kind I J h.others e logged, region, number), omega arith)

pub kept_may_go : KeptFileMayGo
kept_may_go I J name entries goes fit kept r = gone_alike I J name entries goes fit (λ e member. covered e (kept e member)) r
  where
    covered : (e : Entry) → ((m : Name) × (es : List Entry) × (m.kind ≡ kinds.Edits) × IsLogFile J m es × Contains es e) ⊎ IsFlushedEntry J e → IsLogged J e ⊎ IsFlushedEntry I e
    covered e (inl (m, es, kind, file, member)) = inl (record { name = m; entries = es; file = file; member = member })
    covered e (inr flushed) = inr (λ f has. let g = flushed f has in (g.0, flushes_kept J I (stores_back I J (stores_same goes)) e.region f g.0 g.1, g.2))

pub copies_nothing : CopiesChangeNothing
copies_nothing I J name entries copies x fit logged r = copies_alike I J name entries copies x fit logged r

pub replayed : ReplayChangesNothing
replayed F I J name s alike stores cut stand kind others before stands after r = in_turn F I J alike (λ q. store_alike I J name s appears (alike r).fit q) r
  where
    now : (v : VersionKey) (p : Payload) → IsUnflushed F name.region v p → IsUnflushed I name.region v p
    now v p u = unflushed_too F I name.region stores (λ w x h. ((alike name.region).content w x).0 h) v p u

    was : (v : VersionKey) (p : Payload) → IsUnflushed I name.region v p → IsUnflushed F name.region v p
    was v p u = unflushed_too I F name.region (stores_back F I stores) (λ w x h. ((alike name.region).content w x).1 h) v p u

    appears : Appears name s I J
    appears = record {
      kind = kind;
      others = others;
      before = before;
      after = after;
      holds = λ v p. (
        λ h. (now v p ((cut.holds v p).0 h), (held_range name.region after.bytes s v p after.text h).1, inl cut.family),
        λ h. (cut.holds v p).1 (was v p h.0),
      );
      scope = cut.scope;
      stands = λ other t f one. stands other t (store_kept I F (stores_back F I stores) name.region other t f) one;
      reached = elim cut.reached as (λ _. (n : ℕ) × IsSeen I name.region n × (s.to ≤ n)) [
        | inl e ↦ (e.last.number, inr (e.last, record { name = e.name; entries = e.entries; file = stand e.name e.entries e.kind e.file; member = e.member }, e.of, λ _. e.last.number), e.reached)
        | inr t ↦ (t.1.to, inl (t.0, t.1, counts_kept F I stores name.region t.0 t.1 t.2, λ _. t.1.to), t.3)
      ];
    }
