-- Between the edits files and the renames.
use Rattle.std.proofs.Common.{◌≡◌, ◌≢◌, ◌⊎◌, inl, inr, ℕ, ◌+◌, List, Contains, Option, None, sym, ap, ◌∙◌, subst}
use Rattle.log_model.specs.declared.name.Name.{Name}
use Rattle.log_model.specs.declared.name.NameKind.TheVariants as kinds
use Rattle.log_model.specs.Entry.{Entry}
use Rattle.log_model.specs.Files.{Files, content, IsLogFile}
use Rattle.disk_images.specs.Crash.{DiskView, Throughout}
use Rattle.disk_images.proofs.Moments.{joined}
use Rattle.recovery_laws.specs.Change.{HasText}
use Rattle.recovery_laws.specs.Laws.{IsFlushedEntry}
use Rattle.recovery_laws.proofs.Stores.{flushes_kept}
use Rattle.recovery_laws.specs.Alike.{AllAlike}
use Rattle.wal_split.specs.declared.job.EditsJob.{EditsJob}
use Rattle.wal_split.specs.Jobs.{AreJobs, IsNoJob}
use Rattle.wal_split.specs.Logs.{AreFree, LogsKept, log_name, old_name}
use Rattle.wal_split.specs.Covered.{LogsCovered}

module _ (v w : DiskView) (jobs : List EditsJob) (are : AreJobs jobs) (others : (m : Name) → IsNoJob jobs m → content w.files m ≡ content v.files m) where
  -- a file of another kind is as it was
  other_kind : (m : Name) → m.kind ≢ kinds.Edits → content w.files m ≡ content v.files m
  other_kind m apart = others m (λ j has some is. apart (ap (λ (x : Name). x.kind) is ∙ are.kind j has))

  pub still_free : ((m : Name) → w.gone m → v.gone m) → (logs : List ℕ) → AreFree v logs → AreFree w logs
  still_free gone logs free = record {
    there = λ n has. (let r = free.there n has in (r.0, other_kind (log_name n) (λ is. absurd cc) ∙ r.1));
    old = λ n has. (other_kind (old_name n) (λ is. absurd cc) ∙ (free.old n has).0, λ is_gone. (free.old n has).1 (gone (old_name n) is_gone));
  }

  pub now_kept : ((j : EditsJob) (e : Entry) → Contains jobs j → Contains j.entries.items e → HasText j.name j.entries.items None (content w.files j.name)) → (logs : List ℕ) → LogsCovered v.files jobs logs → LogsKept w.files logs
  now_kept written logs covered n has =
      let c = covered n has in
      (c.0, c.1, subst (λ (o : Option (List ℕ)). HasText (log_name n) c.0 c.1 o) (sym (other_kind (log_name n) (λ is. absurd cc))) c.2, λ e member. one e (c.3 e member))
    where
      one : (e : Entry) → ((j : EditsJob) × Contains jobs j × Contains j.entries.items e) ⊎ IsFlushedEntry v.files e
          → ((m : Name) × (ds : List Entry) × (m.kind ≡ kinds.Edits) × IsLogFile w.files m ds × Contains ds e) ⊎ IsFlushedEntry w.files e
      one e (inl (j, has_job, in_it)) =
          let text = written j e has_job in_it in
          inl (j.name, j.entries.items, are.kind j has_job, record { kind = inr (are.kind j has_job); bytes = text.bytes; there = text.there; ended = None; text = text.text }, in_it)
      one e (inr flushed) = inr (λ f has. (let h = flushed f has in (h.0, flushes_kept v.files w.files (λ n store. other_kind n (λ is. absurd (cc (sym store ∙ is)))) e.region f h.0 h.1, h.2)))

pub then_both : (base : Files) (u v w : DiskView) (n : ℕ) → (m : ℕ) × Throughout (AllAlike base) m u v → Throughout (AllAlike base) n v w → (by : ℕ) × Throughout (AllAlike base) by u w
then_both base u v w n first second = (first.0 + n, joined (AllAlike base) first.0 n u v w first.1 second)
