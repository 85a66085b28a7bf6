use Rattle.std.proofs.Common.{◌≡◌, ℕ, List, None, OnOk, sym, subst}
use Rattle.std.proofs.Math.Logic.{∥∥₁_map, ∥∥₁_elim}
use Rattle.std.proofs.lemmas.Result.{on_ok_weaker}
use Rattle.log_model.specs.Files.{content}
use Rattle.disk_images.specs.Crash.{DiskView, Throughout}
use Rattle.disk_images.specs.Calls.{Renamed}
use Rattle.disk_images.specs.OneFile.{IsDurableFile}
use Rattle.disk_images.specs.Moved.{HasEitherName, TouchesBoth}
use Rattle.log_file.specs.LogText.{ended_text}
use Rattle.log_ledger.specs.History.{archived_in}
use Rattle.log_device.specs.Keeps.{Keeps, log_name, old_name}
use Rattle.log_device.proofs.Appends.{renamed_stay}
use Rattle.log_device.proofs.Disk.{absent_by}
use Rattle.log_device.proofs.Archived.{rename_names, rename_moments, archived_kept, old_free}
use Rattle.log_device.proofs.renaming.rename_log.Goals as goal

pub rename_durable-requires-clause-durable : goal.rename_durable-requires-clause-durable
rename_durable-requires-clause-durable g c told =
    ∥∥₁_map (c.requires told) (λ r. (ended_text r.3.number r.3.entries, subst (λ (n : ℕ). IsDurableFile (g.D.Disk.view c.args.disk.now) (log_name n) (ended_text r.3.number r.3.entries)) r.6 (r.4.logs r.3 r.5).0.file))

pub rename_durable-requires-clause-free : goal.rename_durable-requires-clause-free
rename_durable-requires-clause-free g c told =
    let u = g.D.Disk.view c.args.disk.now in (
      absent_by (content u.files (old_name c.args.number)) (c.requires told) (λ r. subst (λ (n : ℕ). content u.files (old_name n) ≡ None) r.6 (old_free r.0 u r.1 r.2 r.3 r.4 r.5).0),
      λ gone. ∥∥₁_elim (c.requires told) (λ a b. absurd a) (λ r. (old_free r.0 u r.1 r.2 r.3 r.4 r.5).1 (subst (λ (n : ℕ). u.gone (old_name n)) (sym r.6) gone)),
    )

-- what the call says at its argument, at the number of the closed log
moves_at : (n number : ℕ) (u v : DiskView) (bytes : List ℕ) → n ≡ number → IsDurableFile u (log_name n) bytes
    → ((b : List ℕ) → IsDurableFile u (log_name number) b → Throughout (HasEitherName (log_name number) (old_name number) b u) 1 u v) → TouchesBoth (log_name number) (old_name number) u v
    → Throughout (HasEitherName (log_name n) (old_name n) bytes u) 1 u v × TouchesBoth (log_name n) (old_name n) u v
moves_at n number u v bytes is file over touches = (
  subst (λ (k : ℕ). Throughout (HasEitherName (log_name k) (old_name k) bytes u) 1 u v) (sym is) (over bytes (subst (λ (k : ℕ). IsDurableFile u (log_name k) bytes) is file)),
  subst (λ (k : ℕ). TouchesBoth (log_name k) (old_name k) u v) (sym is) touches,
)

pub returns-clause-renames : goal.returns-clause-renames
returns-clause-renames g c told log h ns closed keeps member number flushed =
    let u = g.D.Disk.view c.args.disk.now in
    let v = g.D.Disk.view c.rename_durable.new.disk in
    let file = (keeps.logs closed member).0.file in
    let moved = moves_at closed.number c.args.number u v (ended_text closed.number closed.entries) number file (c.rename_durable.ensures.any_moment told) (c.rename_durable.ensures.touches told) in record {
      any_moment = rename_moments log u v h ns keeps closed member flushed moved.0 moved.1;
      names = rename_names log u v h ns keeps closed member flushed moved.0 moved.1;
      logs = renamed_stay closed.number u v (ended_text closed.number closed.entries) (g.met.D.Disk.is_true c.rename_durable.new.disk told) file moved.0 moved.1;
    }

pub returns-clause-kept : goal.returns-clause-kept
returns-clause-kept g c told log h ns closed keeps member number flushed =
    let u = g.D.Disk.view c.args.disk.now in
    let v = g.D.Disk.view c.rename_durable.new.disk in
    let moved = moves_at closed.number c.args.number u v (ended_text closed.number closed.entries) number (keeps.logs closed member).0.file (c.rename_durable.ensures.any_moment told) (c.rename_durable.ensures.touches told) in
    subst (λ (n : ℕ). OnOk c.rename_durable.result (Keeps log v (archived_in h n) ns)) number
    (on_ok_weaker c.rename_durable.result (archived_kept log u v h ns keeps closed member flushed moved.0 moved.1)
    (subst (λ (n : ℕ). OnOk c.rename_durable.result (Renamed (log_name n) (old_name n) u.files v.files)) (sym number) (c.rename_durable.ensures.renamed told)))
