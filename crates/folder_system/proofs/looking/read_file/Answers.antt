use Rattle.std.specs.FinMap.{get}
use Rattle.folder_system.specs.System.{Folder}
use Rattle.folder_system.proofs.Opened.{open_more}
use Rattle.std.proofs.Common.{◌≡◌, ◌++◌, ◌-◌, ℕ, List, length, take, drop, min, IfOk, subst, ap, ◌∙◌}
use Rattle.folder_system.proofs.Watched.{calm_look, calm_looks}
use Rattle.folder_system.proofs.Pins.{opened_calm, opened_text}
use Rattle.folder_system.proofs.Good.{keeps_still}
use Rattle.folder_system.proofs.Folders.{always_ok}
use Rattle.folder_system.proofs.looking.read_file.Goals as goal

pub returns-in-Err-clause-looks : goal.returns-in-Err-clause-looks
returns-in-Err-clause-looks g c told =
    let old = g.S.System.view c.args.system.now in
    let mid = g.S.System.view c.handle.new.system in
    calm_looks old mid (c.requires.sure told) (calm_look old mid (g.met.S.System.is_true c.args.system.now told) (c.handle.ensures.looks told).observes)

pub returns-clause-count : goal.returns-clause-count
returns-clause-count g c told text reads =
    let old = g.S.System.view c.args.system.now in
    let mid = g.S.System.view c.handle.new.system in
    subst (λ (t : List ℕ). IfOk c.read-filled.result (λ n. n ≡ min (length c.args.into.now) (length t - c.args.at)))
    (opened_text c.args.name (g.S.System.inode c.in-Ok.entry.file) old mid (c.requires.sure told) (c.in-Ok.ensures.leads told) (c.handle.ensures.looks told) text reads) (c.read-filled.ensures.count told (λ doubt. c.requires.sure told c.args.name (g.S.System.inode c.in-Ok.entry.file) (c.in-Ok.ensures.leads told) ((c.handle.ensures.looks told).sure (g.S.System.inode c.in-Ok.entry.file) doubt)))

pub returns-clause-bytes : goal.returns-clause-bytes
returns-clause-bytes g c told text reads =
    let old = g.S.System.view c.args.system.now in
    let mid = g.S.System.view c.handle.new.system in
    subst (λ (t : List ℕ). IfOk c.read-filled.result (λ n. c.read-filled.new.into ≡ take n (drop c.args.at t) ++ drop n c.args.into.now))
    (opened_text c.args.name (g.S.System.inode c.in-Ok.entry.file) old mid (c.requires.sure told) (c.in-Ok.ensures.leads told) (c.handle.ensures.looks told) text reads) (c.read-filled.ensures.bytes told (λ doubt. c.requires.sure told c.args.name (g.S.System.inode c.in-Ok.entry.file) (c.in-Ok.ensures.leads told) ((c.handle.ensures.looks told).sure (g.S.System.inode c.in-Ok.entry.file) doubt)))

pub returns-clause-looks : goal.returns-clause-looks
returns-clause-looks g c told =
    let old = g.S.System.view c.args.system.now in
    let mid = g.S.System.view c.handle.new.system in
    let done = g.S.System.view c.read-filled.new.self in
    let fair = g.met.S.System.is_true c.args.system.now told in
    calm_looks old done (c.requires.sure told)
    (opened_calm c.args.name (g.S.System.inode c.in-Ok.entry.file) old mid done fair (c.requires.sure told) (c.in-Ok.ensures.leads told) (c.handle.ensures.looks told) (c.read-filled.ensures.looks told).observes)

pub returns-clause-keeps : goal.returns-clause-keeps
returns-clause-keeps g c told =
    let old = g.S.System.view c.args.system.now in
    let mid = g.S.System.view c.handle.new.system in
    let done = g.S.System.view c.read-filled.new.self in
    let fair = g.met.S.System.is_true c.args.system.now told in
    always_ok c.read-filled.result (keeps_still old done
    (opened_calm c.args.name (g.S.System.inode c.in-Ok.entry.file) old mid done fair (c.requires.sure told) (c.in-Ok.ensures.leads told) (c.handle.ensures.looks told) (c.read-filled.ensures.looks told).observes)
    (λ j doubt. (c.handle.ensures.looks told).sure j ((c.read-filled.ensures.looks told).sure j doubt)))

pub returns-clause-kept : goal.returns-clause-kept
returns-clause-kept g c told =
    always_ok c.read-filled.result (open_more g.S.System.inode (g.S.System.view c.handle.new.system) (g.S.System.view c.read-filled.new.self) c.handle.new.files.files.items c.keep.new.self.files.items c.in-Ok.entry c.args.name
    (c.read-filled.ensures.looks told).observes.folder c.in-Ok.ensures.named
    (ap (λ (D : Folder). get D c.args.name) (c.handle.ensures.looks told).observes.folder ∙ c.in-Ok.ensures.leads told) c.keep.ensures (c.handle.ensures.kept told))
