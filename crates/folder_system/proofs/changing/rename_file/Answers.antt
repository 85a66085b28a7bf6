use Rattle.std.proofs.Common.{ap, ◌∙◌}
use Rattle.std.specs.FinMap.{get}
use Rattle.std.proofs.lemmas.Result.{on_ok_weaker}
use Rattle.folder_system.specs.System.{Folder}
use Rattle.folder_system.proofs.Opened.{open_still, open_moved}
use Rattle.folder_system.specs.Laws.{absent_in}
use Rattle.folder_system.proofs.Begun.{begun_tick}
use Rattle.folder_system.proofs.Rename.{rename_any}
use Rattle.folder_system.proofs.Good.{good_rename}
use Rattle.folder_system.specs.View.{disk_view}
use Rattle.folder_system.proofs.Adapter.{looked_rename}
use Rattle.folder_system.proofs.Watched.{calm_look, calm_looks}
use Rattle.folder_system.proofs.changing.rename_file.Goals as goal

pub returns-clause-renames : goal.returns-clause-renames
returns-clause-renames g c told =
    let old = g.S.System.view c.args.system.now in
    let mid = g.S.System.view c.tick.new.self in
    let free = c.requires.to told in
    rename_any c.args.from c.args.to c.rename.result old mid (g.S.System.view c.rename.new.self) (g.met.S.System.is_true c.args.system.now told) (c.requires.sure told)
    (c.requires.plain told) (begun_tick old mid (c.in-Ok.ensures.ticks told)) (absent_in old.folder old.bytes c.args.to free.0) free.1 (c.rename.ensures.renames told)

pub returns-clause-good : goal.returns-clause-good
returns-clause-good g c told =
    let old = g.S.System.view c.args.system.now in
    let mid = g.S.System.view c.tick.new.self in
    let free = c.requires.to told in
    good_rename c.args.from c.args.to c.rename.result old mid (g.S.System.view c.rename.new.self) (g.met.S.System.is_true c.args.system.now told)
    (begun_tick old mid (c.in-Ok.ensures.ticks told)) (absent_in old.folder old.bytes c.args.to free.0) free.1 (c.rename.ensures.renames told)

pub returns-clause-kept : goal.returns-clause-kept
returns-clause-kept g c told =
    let old = g.S.System.view c.args.system.now in
    let mid = g.S.System.view c.tick.new.self in
    let folder = (c.in-Ok.ensures.ticks told).folder in
    on_ok_weaker c.rename.result (λ moved.
    open_moved g.S.System.inode mid (g.S.System.view c.rename.new.self) c.args.files.now.files.items c.close.new.self.files.items moved.0 c.args.from c.args.to moved.1
    (ap (λ (D : Folder). get D c.args.to) folder ∙ absent_in old.folder old.bytes c.args.to (c.requires.to told).0) c.close.ensures.closed c.close.ensures.kept
    (open_still g.S.System.inode old mid c.args.files.now.files.items c.args.files.now.files.items folder (λ f has. has) (c.requires.opened told)))
    (c.rename.ensures.renames told).moved

pub returns-in-Err-clause-renames : goal.returns-in-Err-clause-renames
returns-in-Err-clause-renames g c told =
    let old = g.S.System.view c.args.system.now in
    let new = g.S.System.view c.tick.new.self in
    looked_rename c.in-Err.e (disk_view old) (disk_view new)
    (calm_looks old new (c.requires.sure told) (calm_look old new (g.met.S.System.is_true c.args.system.now told) (c.in-Err.ensures.failed told).observes)) c.args.from c.args.to
