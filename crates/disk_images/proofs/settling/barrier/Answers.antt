use Rattle.std.proofs.Common.{◌+◌, ◌∙◌, ap, subst, length, List, Contains}
use Rattle.std.specs.FinMap.{keys}
use Rattle.log_model.specs.declared.name.Name.{Name}
use Rattle.log_model.specs.Files.{Files, content}
use Rattle.disk_images.specs.Settled.{AreStanding}
use Rattle.disk_images.proofs.Watching.{watches_joined, watches_once, was_image}
use Rattle.disk_images.proofs.Settled.{read_of, settled}
use Rattle.disk_images.proofs.settling.barrier.Goals as goal

pub returns-in_err-names-clause-watches : goal.returns-in_err-names-clause-watches
returns-in_err-names-clause-watches g c told = (
  1 + 1,
  watches_joined 1 1 (g.D.Disk.view c.args.disk.now) (g.D.Disk.view c.settle.new.self) (g.D.Disk.view c.names.new.self)
      (watches_once (g.D.Disk.view c.args.disk.now) (g.D.Disk.view c.settle.new.self) (c.settle.ensures.settles told).looks) (watches_once (g.D.Disk.view c.settle.new.self) (g.D.Disk.view c.names.new.self) (c.names.ensures.looks told)),
)

pub sync_files-requires : goal.sync_files-requires
sync_files-requires g c = record {
  there = λ told m has.
      let r = read_of (g.D.Disk.view c.args.disk.now).files m (subst (λ (l : List Name). Contains l m) (c.as_slice.ensures ∙ c.in_ok-names.ensures.names told ∙ ap (λ (f : Files). keys f) (c.settle.ensures.settles told).looks.files) has) in
      ∣ (r.0, ap (λ (f : Files). content f m) ((c.names.ensures.looks told).files ∙ (c.settle.ensures.settles told).looks.files) ∙ r.1) ∣₁;
}

pub returns-clause-watches : goal.returns-clause-watches
returns-clause-watches g c told = (
  1 + 1 + length c.as_slice.result.now,
  watches_joined (1 + 1) (length c.as_slice.result.now) (g.D.Disk.view c.args.disk.now) (g.D.Disk.view c.names.new.self) (g.D.Disk.view c.sync_files.new.disk)
      (watches_joined 1 1 (g.D.Disk.view c.args.disk.now) (g.D.Disk.view c.settle.new.self) (g.D.Disk.view c.names.new.self)
      (watches_once (g.D.Disk.view c.args.disk.now) (g.D.Disk.view c.settle.new.self) (c.settle.ensures.settles told).looks) (watches_once (g.D.Disk.view c.settle.new.self) (g.D.Disk.view c.names.new.self) (c.names.ensures.looks told)))
      (c.sync_files.ensures.watches told),
)

pub returns-in_err-sync_files-clause-watches : goal.returns-in_err-sync_files-clause-watches
returns-in_err-sync_files-clause-watches g c told = (
  1 + 1 + length c.as_slice.result.now,
  watches_joined (1 + 1) (length c.as_slice.result.now) (g.D.Disk.view c.args.disk.now) (g.D.Disk.view c.names.new.self) (g.D.Disk.view c.sync_files.new.disk)
      (watches_joined 1 1 (g.D.Disk.view c.args.disk.now) (g.D.Disk.view c.settle.new.self) (g.D.Disk.view c.names.new.self)
      (watches_once (g.D.Disk.view c.args.disk.now) (g.D.Disk.view c.settle.new.self) (c.settle.ensures.settles told).looks) (watches_once (g.D.Disk.view c.settle.new.self) (g.D.Disk.view c.names.new.self) (c.names.ensures.looks told)))
      (c.sync_files.ensures.watches told),
)

pub returns-clause-settled : goal.returns-clause-settled
returns-clause-settled g c told =
    let u = g.D.Disk.view c.settle.new.self in
    let v = g.D.Disk.view c.names.new.self in
    let w = g.D.Disk.view c.sync_files.new.disk in
    let settles = c.in_ok-settle.ensures.settles told in
    let watches = watches_joined 1 (length c.as_slice.result.now) u v w (watches_once u v (c.names.ensures.looks told)) (c.sync_files.ensures.watches told) in
    settled u w settles.pinned settles.none_gone settles.none_former (1 + length c.as_slice.result.now) watches (was_image (1 + length c.as_slice.result.now) u w watches)
    (subst (λ (l : List Name). AreStanding w l) (c.as_slice.ensures ∙ c.in_ok-names.ensures.names told) (c.in_ok-sync_files.ensures.standing told))

pub returns-in_err-settle-clause-watches : goal.returns-in_err-settle-clause-watches
returns-in_err-settle-clause-watches g c told = (1, watches_once (g.D.Disk.view c.args.disk.now) (g.D.Disk.view c.settle.new.self) (c.settle.ensures.settles told).looks)
