use Rattle.std.proofs.Common.{◌∙◌}
use Rattle.folder_system.proofs.Watched.{calm_look, calm_then}
use Rattle.folder_system.proofs.Pins.{settling, none_settled, names_pinned}
use Rattle.folder_system.proofs.Good.{keeps_look}
use Rattle.folder_system.proofs.pinning.settle_names.Goals as goal

pub returns-in-Err-clause-settles : goal.returns-in-Err-clause-settles
returns-in-Err-clause-settles g c told =
    let old = g.S.System.view c.args.system.now in
    let mid = g.S.System.view c.sync_folder.new.self in
    none_settled c.in-Err.e old mid (c.requires told) (calm_look old mid (g.met.S.System.is_true c.args.system.now told) (c.sync_folder.ensures.syncs told).looks.observes)

pub returns-clause-settles : goal.returns-clause-settles
returns-clause-settles g c told =
    let old = g.S.System.view c.args.system.now in
    let mid = g.S.System.view c.sync_folder.new.self in
    let fair = g.met.S.System.is_true c.args.system.now told in
    settling old mid (g.S.System.view c.tick.new.self) fair (g.met.S.System.is_true c.tick.new.self told) (c.requires told)
    (calm_look old mid fair (c.sync_folder.ensures.syncs told).looks.observes) (c.in-Ok-tick.ensures.ticks told) (c.in-Ok.ensures.syncs told).pinned _

pub returns-clause-pinned : goal.returns-clause-pinned
returns-clause-pinned g c told =
    let old = g.S.System.view c.args.system.now in
    let mid = g.S.System.view c.sync_folder.new.self in
    let fair = g.met.S.System.is_true c.args.system.now told in
    names_pinned old mid (g.S.System.view c.tick.new.self) fair (g.met.S.System.is_true c.tick.new.self told) (c.requires told)
    (calm_look old mid fair (c.sync_folder.ensures.syncs told).looks.observes) (c.in-Ok-tick.ensures.ticks told) (c.in-Ok.ensures.syncs told).pinned

pub returns-clause-keeps : goal.returns-clause-keeps
returns-clause-keeps g c told =
    keeps_look (g.S.System.view c.args.system.now) (g.S.System.view c.sync_folder.new.self) (g.S.System.view c.tick.new.self) (g.met.S.System.is_true c.args.system.now told)
    (c.sync_folder.ensures.syncs told).looks (c.in-Ok-tick.ensures.ticks told)

pub returns-in-Err-clause-stays : goal.returns-in-Err-clause-stays
returns-in-Err-clause-stays g c told = (c.sync_folder.ensures.syncs told).looks.observes.folder

pub returns-clause-stays : goal.returns-clause-stays
returns-clause-stays g c told = (c.in-Ok-tick.ensures.ticks told).folder ∙ (c.sync_folder.ensures.syncs told).looks.observes.folder

pub returns-in-Err-tick-clause-settles : goal.returns-in-Err-tick-clause-settles
returns-in-Err-tick-clause-settles g c told =
    let old = g.S.System.view c.args.system.now in
    let mid = g.S.System.view c.sync_folder.new.self in
    let new = g.S.System.view c.tick.new.self in
    let fair = g.met.S.System.is_true c.args.system.now told in
    let look = (c.sync_folder.ensures.syncs told).looks in
    none_settled c.in-Err-tick.e old new (c.requires told) (calm_then old mid new fair (calm_look old mid fair look.observes) look.sure (c.in-Err-tick.ensures.failed told).observes)

pub returns-in-Err-tick-clause-stays : goal.returns-in-Err-tick-clause-stays
returns-in-Err-tick-clause-stays g c told = (c.in-Err-tick.ensures.failed told).observes.folder ∙ (c.sync_folder.ensures.syncs told).looks.observes.folder
