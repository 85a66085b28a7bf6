use Rattle.std.proofs.Common.{◌∙◌, ap, arith, IsTrue, get_or}
use Rattle.std.proofs.Math.Logic.{∥∥₁_map}
use Rattle.std.proofs.lemmas.List.Elements.{Contains-get_or}
use Rattle.log_model.specs.declared.name.Name.{Name}
use Rattle.log_model.specs.declared.name.NameKind.TheVariants as kinds
use Rattle.log_model.specs.Files.{Files, content}
use Rattle.disk_images.proofs.Watching.{none_synced, one_more}
use Rattle.disk_images.proofs.settling.sync_files.Goals as goal

abbrev some_name : Name
some_name = record { kind = kinds.Log; region = 0; number = 0 }

pub loop-name-init : goal.loop-name-init
loop-name-init g c = (none_synced (IsTrue g.D.Disk.told) (g.D.Disk.view c.args.disk.now) c.args.names.now, omega arith)

pub loop-name-preserved : goal.loop-name-preserved
loop-name-preserved g c =
    let so_far = c.loop-name.invariant.0 in (
      one_more (IsTrue g.D.Disk.told) (g.D.Disk.view c.args.disk.now) (g.D.Disk.view c.loop-name.disk) (g.D.Disk.view c.sync_file.new.disk) c.args.names.now c.loop-name.name-index some_name c.loop-name-test.true so_far
          c.sync_file.ensures.watches c.in_ok-sync_file.ensures.standing,
      omega (arith, c.loop-name.invariant.1, c.sync_file.ensures.cause.later),
    )

pub sync_file-requires : goal.sync_file-requires
sync_file-requires g c told =
    let i = c.loop-name.name-index in
    let m : Name = get_or c.args.names.now i some_name in
    ∥∥₁_map (c.requires.there told m (Contains-get_or c.args.names.now i some_name c.loop-name-test.true))
    (λ r. (r.0, ap (λ (f : Files). content f m) ((c.loop-name.invariant.0.watches told).files) ∙ r.1))
