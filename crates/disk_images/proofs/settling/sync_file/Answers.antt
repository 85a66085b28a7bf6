use Rattle.std.proofs.Common.{◌∙◌, ap, sym}
use Rattle.std.proofs.lemmas.Result.{on_ok_weaker}
use Rattle.log_model.specs.Files.{Files, content}
use Rattle.disk_images.proofs.Reading.{reads_some}
use Rattle.disk_images.proofs.Watching.{watches_once}
use Rattle.disk_images.proofs.settling.sync_file.Goals as goal

pub returns-in-Log : goal.returns-in-Log
returns-in-Log g c = record {
  standing = λ told.
      let syncs = c.sync.ensures.syncs told in
      let r = reads_some (g.D.Disk.view c.args.disk.now).files c.args.name (c.requires told) in
      on_ok_weaker c.sync.result (λ durable other J now. durable r.0 r.1 J now ∙ sym (ap (λ (f : Files). content f c.args.name) syncs.looks.files ∙ r.1)) syncs.durable;
  watches = λ told. watches_once (g.D.Disk.view c.args.disk.now) (g.D.Disk.view c.sync.new.self) (c.sync.ensures.syncs told).looks;
  cause = c.sync.ensures.cause;
}
