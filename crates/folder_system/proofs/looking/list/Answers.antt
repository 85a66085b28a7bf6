use Rattle.std.proofs.Common.{◌≡◌, IfOk, List, sym, subst}
use Rattle.log_model.specs.declared.name.Name.{Name}
use Rattle.folder_system.specs.Laws.{keys_of}
use Rattle.folder_system.proofs.Watched.{calm_look, calm_looks}
use Rattle.folder_system.proofs.Good.{keeps_still}
use Rattle.folder_system.proofs.looking.list.Goals as goal

pub returns-clause-names : goal.returns-clause-names
returns-clause-names g c told =
    let v = g.S.System.view c.args.system.now in
    subst (λ (ks : List Name). IfOk c.names.result (λ names. names.items ≡ ks)) (sym (keys_of v.folder v.bytes)) (c.names.ensures.names told)

pub returns-clause-looks : goal.returns-clause-looks
returns-clause-looks g c told =
    let old = g.S.System.view c.args.system.now in
    let new = g.S.System.view c.names.new.self in
    calm_looks old new (c.requires told) (calm_look old new (g.met.S.System.is_true c.args.system.now told) (c.names.ensures.looks told).observes)

pub returns-clause-keeps : goal.returns-clause-keeps
returns-clause-keeps g c told =
    let old = g.S.System.view c.args.system.now in
    let new = g.S.System.view c.names.new.self in
    keeps_still old new (calm_look old new (g.met.S.System.is_true c.args.system.now told) (c.names.ensures.looks told).observes) (c.names.ensures.looks told).sure

pub returns-clause-stays : goal.returns-clause-stays
returns-clause-stays g c told = (c.names.ensures.looks told).observes.folder
