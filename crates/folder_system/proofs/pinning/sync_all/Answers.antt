use Rattle.std.proofs.Common.{ap, ◌∙◌}
use Rattle.std.specs.FinMap.{get}
use Rattle.folder_system.specs.System.{Folder}
use Rattle.folder_system.proofs.Opened.{open_more}
use Rattle.folder_system.proofs.Watched.{calm_look, calm_then}
use Rattle.folder_system.proofs.Pins.{syncing, none_synced, opened_calm, bytes_pinned, names_pinned}
use Rattle.folder_system.proofs.Good.{keeps_calm}
use Rattle.folder_system.proofs.pinning.sync_all.Goals as goal

pub returns-in-Err-clause-syncs : goal.returns-in-Err-clause-syncs
returns-in-Err-clause-syncs g c told =
    let old = g.S.System.view c.args.system.now in
    let mid = g.S.System.view c.handle.new.system in
    none_synced c.args.name c.in-Err.e old mid (c.requires.sure told) (calm_look old mid (g.met.S.System.is_true c.args.system.now told) (c.handle.ensures.looks told).observes)

pub returns-in-Err-sync-clause-syncs : goal.returns-in-Err-sync-clause-syncs
returns-in-Err-sync-clause-syncs g c told =
    let old = g.S.System.view c.args.system.now in
    let mid = g.S.System.view c.handle.new.system in
    let done = g.S.System.view c.sync.new.self in
    none_synced c.args.name c.in-Err-sync.e old done (c.requires.sure told)
    (opened_calm c.args.name (g.S.System.inode c.in-Ok.entry.file) old mid done (g.met.S.System.is_true c.args.system.now told) (c.requires.sure told) (c.in-Ok.ensures.leads told)
    (c.handle.ensures.looks told) (c.sync.ensures.syncs told).observes)

pub returns-in-Err-sync_folder-clause-syncs : goal.returns-in-Err-sync_folder-clause-syncs
returns-in-Err-sync_folder-clause-syncs g c told =
    let old = g.S.System.view c.args.system.now in
    let mid = g.S.System.view c.handle.new.system in
    let done = g.S.System.view c.sync.new.self in
    let last = g.S.System.view c.sync_folder.new.self in
    let fair = g.met.S.System.is_true c.args.system.now told in
    let look = c.handle.ensures.looks told in
    let calm = opened_calm c.args.name (g.S.System.inode c.in-Ok.entry.file) old mid done fair (c.requires.sure told) (c.in-Ok.ensures.leads told) look (c.sync.ensures.syncs told).observes in
    none_synced c.args.name c.in-Err-sync_folder.e old last (c.requires.sure told)
    (calm_then old done last fair calm (λ j doubt. look.sure j ((c.in-Ok-sync.ensures.syncs told).certain j doubt)) (c.sync_folder.ensures.syncs told).looks.observes)

pub returns-clause-syncs : goal.returns-clause-syncs
returns-clause-syncs g c told =
    let name = c.args.name in
    let i = g.S.System.inode c.in-Ok.entry.file in
    let old = g.S.System.view c.args.system.now in
    let mid = g.S.System.view c.handle.new.system in
    let done = g.S.System.view c.sync.new.self in
    let last = g.S.System.view c.sync_folder.new.self in
    let fair = g.met.S.System.is_true c.args.system.now told in
    let sure = c.requires.sure told in
    let is = c.in-Ok.ensures.leads told in
    let look = c.handle.ensures.looks told in
    let calm = opened_calm name i old mid done fair sure is look (c.sync.ensures.syncs told).observes in
    let folded = c.in-Ok-sync_folder.ensures.syncs told in
    let calm_last = calm_then old done last fair calm (λ j doubt. look.sure j ((c.in-Ok-sync.ensures.syncs told).certain j doubt)) folded.looks.observes in
    syncing name i old last (g.S.System.view c.tick.new.self) fair sure is calm_last (c.in-Ok-tick.ensures.ticks told)
    (λ D B now. bytes_pinned name i old mid done fair sure is look (c.sync.ensures.syncs told).observes (c.in-Ok-sync.ensures.syncs told).pinned D B (folded.looks.observes.now D B now))
    (λ D B now. ap (λ (F : Folder). get F name) (folded.pinned D B now ∙ calm_last.folder) ∙ is)
    (λ D B m now former. ap (λ (F : Folder). get F m) (folded.pinned D B now ∙ calm_last.folder) ∙ former.2) _

pub returns-clause-pinned : goal.returns-clause-pinned
returns-clause-pinned g c told =
    let i = g.S.System.inode c.in-Ok.entry.file in
    let old = g.S.System.view c.args.system.now in
    let mid = g.S.System.view c.handle.new.system in
    let done = g.S.System.view c.sync.new.self in
    let last = g.S.System.view c.sync_folder.new.self in
    let fair = g.met.S.System.is_true c.args.system.now told in
    let sure = c.requires.sure told in
    let look = c.handle.ensures.looks told in
    let folded = c.in-Ok-sync_folder.ensures.syncs told in
    let calm = opened_calm c.args.name i old mid done fair sure (c.in-Ok.ensures.leads told) look (c.sync.ensures.syncs told).observes in
    names_pinned old last (g.S.System.view c.tick.new.self) fair (g.met.S.System.is_true c.tick.new.self told) sure
    (calm_then old done last fair calm (λ j doubt. look.sure j ((c.in-Ok-sync.ensures.syncs told).certain j doubt)) folded.looks.observes) (c.in-Ok-tick.ensures.ticks told) folded.pinned

pub returns-clause-keeps : goal.returns-clause-keeps
returns-clause-keeps g c told =
    let i = g.S.System.inode c.in-Ok.entry.file in
    let old = g.S.System.view c.args.system.now in
    let mid = g.S.System.view c.handle.new.system in
    let done = g.S.System.view c.sync.new.self in
    let last = g.S.System.view c.sync_folder.new.self in
    let fair = g.met.S.System.is_true c.args.system.now told in
    let look = c.handle.ensures.looks told in
    let folded = c.in-Ok-sync_folder.ensures.syncs told in
    let calm = opened_calm c.args.name i old mid done fair (c.requires.sure told) (c.in-Ok.ensures.leads told) look (c.sync.ensures.syncs told).observes in
    keeps_calm old last (g.S.System.view c.tick.new.self) fair (calm_then old done last fair calm (λ j doubt. look.sure j ((c.in-Ok-sync.ensures.syncs told).certain j doubt)) folded.looks.observes)
    (λ j doubt. look.sure j ((c.in-Ok-sync.ensures.syncs told).certain j (folded.looks.sure j doubt))) (c.in-Ok-tick.ensures.ticks told)

pub returns-clause-kept : goal.returns-clause-kept
returns-clause-kept g c told =
    open_more g.S.System.inode (g.S.System.view c.handle.new.system) (g.S.System.view c.tick.new.self) c.handle.new.files.files.items c.keep.new.self.files.items c.in-Ok.entry c.args.name
    ((c.in-Ok-tick.ensures.ticks told).folder ∙ (c.sync_folder.ensures.syncs told).looks.observes.folder ∙ (c.sync.ensures.syncs told).observes.folder) c.in-Ok.ensures.named
    (ap (λ (D : Folder). get D c.args.name) (c.handle.ensures.looks told).observes.folder ∙ c.in-Ok.ensures.leads told) c.keep.ensures (c.handle.ensures.kept told)

pub returns-in-Err-tick-clause-syncs : goal.returns-in-Err-tick-clause-syncs
returns-in-Err-tick-clause-syncs g c told =
    let old = g.S.System.view c.args.system.now in
    let mid = g.S.System.view c.handle.new.system in
    let done = g.S.System.view c.sync.new.self in
    let last = g.S.System.view c.sync_folder.new.self in
    let fair = g.met.S.System.is_true c.args.system.now told in
    let look = c.handle.ensures.looks told in
    let folded = c.in-Ok-sync_folder.ensures.syncs told in
    let calm = opened_calm c.args.name (g.S.System.inode c.in-Ok.entry.file) old mid done fair (c.requires.sure told) (c.in-Ok.ensures.leads told) look (c.sync.ensures.syncs told).observes in
    let calm_last = calm_then old done last fair calm (λ j doubt. look.sure j ((c.in-Ok-sync.ensures.syncs told).certain j doubt)) folded.looks.observes in
    none_synced c.args.name c.in-Err-tick.e old (g.S.System.view c.tick.new.self) (c.requires.sure told)
    (calm_then old last (g.S.System.view c.tick.new.self) fair calm_last (λ j doubt. look.sure j ((c.in-Ok-sync.ensures.syncs told).certain j (folded.looks.sure j doubt)))
    (c.in-Err-tick.ensures.failed told).observes)
