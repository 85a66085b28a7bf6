use Rattle.std.proofs.Common.{ap, sym, ◌∙◌}
use Rattle.std.specs.FinMap.{get}
use Rattle.folder_system.specs.System.{Folder}
use Rattle.folder_system.proofs.Begun.{begun_tick, begun_look}
use Rattle.folder_system.proofs.Folders.{always_ok}
use Rattle.folder_system.proofs.Opened.{open_still, open_more}
use Rattle.folder_system.proofs.Write.{writing, none_written, reaches}
use Rattle.folder_system.proofs.Good.{keeps_writes}
use Rattle.folder_system.specs.View.{disk_view}
use Rattle.folder_system.proofs.Adapter.{looked_write}
use Rattle.folder_system.proofs.Watched.{calm_look, calm_looks}
use Rattle.folder_system.proofs.changing.write_file.Goals as goal

pub returns-in-Err-handle-clause-writes : goal.returns-in-Err-handle-clause-writes
returns-in-Err-handle-clause-writes g c told =
    let old = g.S.System.view c.args.system.now in
    let first = g.S.System.view c.tick.new.self in
    let mid = g.S.System.view c.handle.new.system in
    let b = begun_look old first mid (begun_tick old first (c.in-Ok.ensures.ticks told)) (c.handle.ensures.looks told) in
    none_written c.args.name c.args.at c.args.bytes.now _ old mid (g.met.S.System.is_true c.args.system.now told) (c.requires.sure told) b tt

pub write-given-requires : goal.write-given-requires
write-given-requires g c told =
    let old = g.S.System.view c.args.system.now in
    let first = g.S.System.view c.tick.new.self in
    let mid = g.S.System.view c.handle.new.system in
    let b = begun_look old first mid (begun_tick old first (c.in-Ok.ensures.ticks told)) (c.handle.ensures.looks told) in
    let o = (c.handle.ensures.looks told).observes in
    reaches c.args.name (g.S.System.inode c.in-Ok-handle.entry.file) c.args.at old mid (c.requires.sure told) b
    (ap (λ (D : Folder). get D c.args.name) o.folder ∙ c.in-Ok-handle.ensures.leads told) (c.requires.there told)

pub returns-clause-writes : goal.returns-clause-writes
returns-clause-writes g c told =
    let old = g.S.System.view c.args.system.now in
    let first = g.S.System.view c.tick.new.self in
    let mid = g.S.System.view c.handle.new.system in
    let new = g.S.System.view c.write-given.new.self in
    let b = begun_look old first mid (begun_tick old first (c.in-Ok.ensures.ticks told)) (c.handle.ensures.looks told) in
    let is = ap (λ (D : Folder). get D c.args.name) (sym (c.in-Ok.ensures.ticks told).folder) ∙ c.in-Ok-handle.ensures.leads told in
    writing c.args.name (g.S.System.inode c.in-Ok-handle.entry.file) c.args.at c.args.bytes.now c.write-given.result old mid new (g.met.S.System.is_true c.args.system.now told)
    (c.requires.sure told) (c.requires.plain told) b is (c.write-given.ensures.writes told)

pub returns-clause-keeps : goal.returns-clause-keeps
returns-clause-keeps g c told =
    let old = g.S.System.view c.args.system.now in
    let first = g.S.System.view c.tick.new.self in
    let mid = g.S.System.view c.handle.new.system in
    let b = begun_look old first mid (begun_tick old first (c.in-Ok.ensures.ticks told)) (c.handle.ensures.looks told) in
    keeps_writes (g.S.System.inode c.in-Ok-handle.entry.file) c.args.at c.args.bytes.now c.write-given.result old mid (g.S.System.view c.write-given.new.self) (g.met.S.System.is_true c.args.system.now told) b (c.write-given.ensures.writes told)

pub handle-requires : goal.handle-requires
handle-requires g c told =
    open_still g.S.System.inode (g.S.System.view c.args.system.now) (g.S.System.view c.tick.new.self) c.args.files.now.files.items c.args.files.now.files.items
    (c.in-Ok.ensures.ticks told).folder (λ f has. has) (c.requires.opened told)

pub returns-clause-kept : goal.returns-clause-kept
returns-clause-kept g c told =
    let mid = g.S.System.view c.handle.new.system in
    always_ok c.write-given.result (open_more g.S.System.inode mid (g.S.System.view c.write-given.new.self) c.handle.new.files.files.items c.keep.new.self.files.items c.in-Ok-handle.entry c.args.name
    (c.write-given.ensures.writes told).folder c.in-Ok-handle.ensures.named (ap (λ (D : Folder). get D c.args.name) (c.handle.ensures.looks told).observes.folder ∙ c.in-Ok-handle.ensures.leads told)
    c.keep.ensures (c.handle.ensures.kept told))

pub returns-in-Err-clause-writes : goal.returns-in-Err-clause-writes
returns-in-Err-clause-writes g c told =
    let old = g.S.System.view c.args.system.now in
    let new = g.S.System.view c.tick.new.self in
    looked_write c.in-Err.e (disk_view old) (disk_view new)
    (calm_looks old new (c.requires.sure told) (calm_look old new (g.met.S.System.is_true c.args.system.now told) (c.in-Err.ensures.failed told).observes)) c.args.name c.args.at c.args.bytes.now
