use Rattle.std.proofs.Common.{ap, ◌∙◌, true}
use Rattle.std.specs.FinMap.{get}
use Rattle.folder_system.specs.System.{Folder}
use Rattle.folder_system.specs.Laws.{absent_in}
use Rattle.folder_system.proofs.Begun.{begun_tick}
use Rattle.folder_system.proofs.Create.{creating, create_failed}
use Rattle.folder_system.proofs.Good.{good_created}
use Rattle.folder_system.proofs.Opened.{open_still, open_made}
use Rattle.folder_system.specs.View.{disk_view}
use Rattle.folder_system.proofs.Adapter.{looked_create}
use Rattle.folder_system.proofs.Watched.{calm_look, calm_looks}
use Rattle.folder_system.proofs.changing.create_file.Goals as goal

pub returns-in-Ok-create-clause-creates : goal.returns-in-Ok-create-clause-creates
returns-in-Ok-create-clause-creates g c told =
    let old = g.S.System.view c.args.system.now in
    let mid = g.S.System.view c.tick.new.self in
    creating c.args.name _ (g.S.System.inode c.in-Ok-create.file) old mid (g.S.System.view c.create.new.self) (g.met.S.System.is_true c.args.system.now told)
    (g.met.S.System.is_true c.tick.new.self told) (c.requires.sure told) (begun_tick old mid (c.in-Ok.ensures.ticks told)) (c.in-Ok-create.ensures.creates told).made

pub returns-in-Err-create-clause-creates : goal.returns-in-Err-create-clause-creates
returns-in-Err-create-clause-creates g c told =
    let old = g.S.System.view c.args.system.now in
    let mid = g.S.System.view c.tick.new.self in
    create_failed c.args.name c.in-Err-create.e old mid (g.S.System.view c.create.new.self) (g.met.S.System.is_true c.args.system.now told)
    (g.met.S.System.is_true c.tick.new.self told) (c.requires.sure told) (begun_tick old mid (c.in-Ok.ensures.ticks told)) (absent_in old.folder old.bytes c.args.name (c.requires.absent told).0)
    (c.in-Err-create.ensures.creates told).failed

pub returns-in-Ok-create-clause-good : goal.returns-in-Ok-create-clause-good
returns-in-Ok-create-clause-good g c told =
    let old = g.S.System.view c.args.system.now in
    let mid = g.S.System.view c.tick.new.self in
    let free = c.requires.absent told in
    good_created c.args.name (g.S.System.inode c.in-Ok-create.file) old mid (g.S.System.view c.create.new.self) (g.met.S.System.is_true c.args.system.now told)
    (g.met.S.System.is_true c.tick.new.self told) (begun_tick old mid (c.in-Ok.ensures.ticks told)) (absent_in old.folder old.bytes c.args.name free.0) free.1 (c.in-Ok-create.ensures.creates told).made

pub returns-in-Ok-create-clause-kept : goal.returns-in-Ok-create-clause-kept
returns-in-Ok-create-clause-kept g c told =
    let old = g.S.System.view c.args.system.now in
    let mid = g.S.System.view c.tick.new.self in
    let folder = (c.in-Ok.ensures.ticks told).folder in
    open_made g.S.System.inode mid (g.S.System.view c.create.new.self) c.args.files.now.files.items c.keep.new.self.files.items
    (record { name = c.args.name; file = c.in-Ok-create.file; is_writable = true }) (c.in-Ok-create.ensures.creates told).made
    (ap (λ (D : Folder). get D c.args.name) folder ∙ absent_in old.folder old.bytes c.args.name (c.requires.absent told).0) c.keep.ensures
    (open_still g.S.System.inode old mid c.args.files.now.files.items c.args.files.now.files.items folder (λ f has. has) (c.requires.opened told))

pub returns-in-Err-clause-creates : goal.returns-in-Err-clause-creates
returns-in-Err-clause-creates g c told =
    let old = g.S.System.view c.args.system.now in
    let new = g.S.System.view c.tick.new.self in
    looked_create c.in-Err.e (disk_view old) (disk_view new)
    (calm_looks old new (c.requires.sure told) (calm_look old new (g.met.S.System.is_true c.args.system.now told) (c.in-Err.ensures.failed told).observes)) c.args.name (c.requires.absent told).0
