use Rattle.std.proofs.lemmas.Result.{on_ok_weaker}
use Rattle.folder_system.proofs.Opened.{open_still, open_gone}
use Rattle.folder_system.proofs.Begun.{begun_tick}
use Rattle.folder_system.proofs.Remove.{remove_any}
use Rattle.folder_system.proofs.Good.{keeps_remove}
use Rattle.folder_system.specs.View.{disk_view}
use Rattle.folder_system.proofs.Adapter.{looked_remove}
use Rattle.folder_system.proofs.Watched.{calm_look, calm_looks}
use Rattle.folder_system.proofs.changing.remove_file.Goals as goal

pub returns-clause-removes : goal.returns-clause-removes
returns-clause-removes g c told =
    let old = g.S.System.view c.args.system.now in
    let mid = g.S.System.view c.tick.new.self in
    remove_any c.args.name c.unlink.result old mid (g.S.System.view c.unlink.new.self) (g.met.S.System.is_true c.args.system.now told) (c.requires.sure told)
    (c.requires.plain told) (begun_tick old mid (c.in-Ok.ensures.ticks told)) (c.unlink.ensures.unlinks told)

pub returns-clause-keeps : goal.returns-clause-keeps
returns-clause-keeps g c told =
    let old = g.S.System.view c.args.system.now in
    let mid = g.S.System.view c.tick.new.self in
    keeps_remove c.args.name c.unlink.result old mid (g.S.System.view c.unlink.new.self) (g.met.S.System.is_true c.args.system.now told) (begun_tick old mid (c.in-Ok.ensures.ticks told)) (c.unlink.ensures.unlinks told)

pub returns-clause-kept : goal.returns-clause-kept
returns-clause-kept g c told =
    let old = g.S.System.view c.args.system.now in
    let mid = g.S.System.view c.tick.new.self in
    on_ok_weaker c.unlink.result (λ gone.
    open_gone g.S.System.inode mid (g.S.System.view c.unlink.new.self) c.args.files.now.files.items c.close.new.self.files.items gone.0 c.args.name gone.1
    c.close.ensures.closed c.close.ensures.kept
    (open_still g.S.System.inode old mid c.args.files.now.files.items c.args.files.now.files.items (c.in-Ok.ensures.ticks told).folder (λ f has. has) (c.requires.opened told)))
    (c.unlink.ensures.unlinks told).unlinked

pub returns-in-Err-clause-removes : goal.returns-in-Err-clause-removes
returns-in-Err-clause-removes g c told =
    let old = g.S.System.view c.args.system.now in
    let new = g.S.System.view c.tick.new.self in
    looked_remove c.in-Err.e (disk_view old) (disk_view new)
    (calm_looks old new (c.requires.sure told) (calm_look old new (g.met.S.System.is_true c.args.system.now told) (c.in-Err.ensures.failed told).observes)) c.args.name
