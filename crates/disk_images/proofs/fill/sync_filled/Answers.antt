use Rattle.std.proofs.Math.Logic.{∥∥₁_map}
use Rattle.std.proofs.lemmas.Result.{on_ok_weaker}
use Rattle.std.proofs.Common.{◌∙◌, ap}
use Rattle.log_model.specs.Files.{Reads}
use Rattle.disk_images.specs.Crash.{IsDurable}
use Rattle.disk_images.proofs.Fills.{sync_moment}
use Rattle.disk_images.proofs.fill.sync_filled.Goals as goal

pub sync-requires : goal.sync-requires
sync-requires g c told = ∥∥₁_map (c.requires.filled told) (λ r. (r.1, r.2.reads))

pub returns-clause-durable : goal.returns-clause-durable
returns-clause-durable g c told front text filled =
    let syncs = c.sync.ensures.syncs told in
    on_ok_weaker c.sync.result
    (λ (durable : (b : _) → Reads (g.D.Disk.view c.args.disk.now).files c.args.name b → IsDurable (g.D.Disk.view c.sync.new.self) c.args.name b). record {
      reads = ap (λ f. Rattle.log_model.specs.Files.content f c.args.name) syncs.looks.files ∙ filled.reads;
      durable = durable text filled.reads;
      unmoved = λ m former. filled.unmoved m (syncs.looks.formerly c.args.name m former);
    })
    syncs.durable

pub returns-clause-any_moment : goal.returns-clause-any_moment
returns-clause-any_moment g c told front text filled =
    sync_moment c.args.name front text (g.D.Disk.view c.args.disk.now) (g.D.Disk.view c.sync.new.self) filled (c.sync.ensures.syncs told)
