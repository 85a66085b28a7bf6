-- What a batch, or copies of logged entries, do to what recovers.
use Rattle.std.proofs.Common.{inl, inr, ℕ, ◌≤◌, List, ◌++◌, Contains, refl, arith}
use Rattle.cell_model.specs.Order.{VersionKey, Payload}
use Rattle.log_model.specs.Entry.{Entry}
use Rattle.log_model.specs.Files.{Files, IsLogged}
use Rattle.log_model.specs.Recovered.{IsSeen, IsRecovered, RecoversAlike}
use Rattle.recovery_laws.specs.Change.{Grown, Agrees}
use Rattle.recovery_laws.specs.Laws.{CommitAdds, CopiesAddNothing, StoreChangesNothing, FlushedLogMayGo}
use Rattle.recovery_laws.proofs.Contents.{content_with, rising_new}
use Rattle.recovery_laws.proofs.Numbers.{recovered_low}
use Rattle.recovery_laws.proofs.Logs.{grown, grown_agreeing, counts_on, counted_before, recovers_with}
use Rattle.recovery_laws.proofs.Stores.{flushes_by, stored_by}
use Rattle.recovery_laws.proofs.Lasts.{same_last, grown_lasts}
use Rattle.recovery_laws.proofs.Likes.{rising_fresh}
use Rattle.recovery_laws.proofs.Archived.{recovered_without}
use Rattle.recovery_laws.proofs.Appearing.{recovered_by_store}

pub content_by_commit : CommitAdds
content_by_commit old new name entries batch last x fit are rise r c held =
    let fresh = rising_fresh last old batch are rise in
    let g : Grown old new batch = grown name x.kind old new x.others entries batch (entries ++ batch) refl x.before x.after fit fresh in
    record {
      fit = g.fit;
      content = content_with old new batch r c (recovers_with old new batch g fresh) held (rising_new c last r batch (λ v p is. recovered_low old r (last r) v p (are r) ((held v p).0 is)) rise);
      last = grown_lasts old new batch last g are rise r;
    }

-- files that log the same beside the same stores recover alike
pub grown_alike : (old new : Files) (copies : List Entry) → Grown old new copies → ((e : Entry) → Contains copies e → IsLogged old e) → (r : ℕ) → RecoversAlike old new r
grown_alike old new copies g logged r = record {
  fit = g.fit;
  content = λ v p. (now v p, was v p);
  last = λ n. same_last old new r seen_now seen_was n;
}
  where
    was_logged : (e : Entry) → IsLogged new e → IsLogged old e
    was_logged e h = elim ((g.logged e).0 h) as (λ _. IsLogged old e) [ inl it ↦ it | inr copy ↦ logged e copy ]

    now : (v : VersionKey) (p : Payload) → IsRecovered old r v p → IsRecovered new r v p
    now v p (inl st) = inl (stored_by old new (counts_on old new copies g) (counted_before old new copies g) r v p st)
    now v p (inr u) = inr (record { entry = u.entry; logged = (g.logged u.entry).1 (inl u.logged); region = u.region; above = λ n f. u.above n (flushes_by new old (counted_before old new copies g) r v.key.family n f); puts = u.puts })

    was : (v : VersionKey) (p : Payload) → IsRecovered new r v p → IsRecovered old r v p
    was v p (inl st) = inl (stored_by new old (counted_before old new copies g) (counts_on old new copies g) r v p st)
    was v p (inr u) = inr (record { entry = u.entry; logged = was_logged u.entry u.logged; region = u.region; above = λ n f. u.above n (flushes_by old new (counts_on old new copies g) r v.key.family n f); puts = u.puts })

    seen_now : (m : ℕ) → IsSeen old r m → (n : ℕ) × IsSeen new r n × (m ≤ n)
    seen_now m (inl f) = (m, inl (f.0, f.1, (g.counting r f.0 f.1).1 f.2, f.3), omega arith)
    seen_now m (inr (e, h, region, number)) = (m, inr (e, (g.logged e).1 (inl h), region, number), omega arith)

    seen_was : (m : ℕ) → IsSeen new r m → (n : ℕ) × IsSeen old r n × (m ≤ n)
    seen_was m (inl f) = (m, inl (f.0, f.1, (g.counting r f.0 f.1).0 f.2, f.3), omega arith)
    seen_was m (inr (e, h, region, number)) = (m, inr (e, was_logged e h, region, number), omega arith)

pub copies_alike : CopiesAddNothing
copies_alike old new name entries copies x fit logged r =
    let agrees : Agrees old copies = record {
      mixed = λ d e hd he region number. fit.agree d e hd (logged e he) region number;
      inner = λ d e hd he region number. fit.agree d e (logged d hd) (logged e he) region number;
    } in
    grown_alike old new copies (grown_agreeing name x.kind old new x.others entries copies (entries ++ copies) refl x.before x.after fit agrees) logged r

pub store_alike : StoreChangesNothing
store_alike old new name s appears fit r = recovered_by_store appears fit r

pub gone_alike : FlushedLogMayGo
gone_alike old new name entries goes fit covered r = recovered_without goes covered fit r
