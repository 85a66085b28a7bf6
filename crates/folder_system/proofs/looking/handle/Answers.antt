use Rattle.std.proofs.Common.{ap, sym, ◌∙◌}
use Rattle.std.specs.FinMap.{get}
use Rattle.log_model.specs.declared.name.Name.{Name}
use Rattle.folder_system.proofs.Opened.{open_still}
use Rattle.folder_system.proofs.looking.handle.Goals as goal

pub returns-in-Some-clause-leads : goal.returns-in-Some-clause-leads
returns-in-Some-clause-leads g c told =
    let v = g.S.System.view c.args.system.now in
    ap (λ (n : Name). get v.folder n) (sym c.in-Some.ensures.taken.0) ∙ c.requires told c.in-Some.entry c.in-Some.ensures.taken.1

pub returns-in-Some-clause-kept : goal.returns-in-Some-clause-kept
returns-in-Some-clause-kept g c told = λ f has. c.requires told f (c.take.ensures.kept f has)

pub returns-in-Ok-clause-kept : goal.returns-in-Ok-clause-kept
returns-in-Ok-clause-kept g c told =
    open_still g.S.System.inode (g.S.System.view c.args.system.now) (g.S.System.view c.open.new.self) c.args.files.now.files.items c.close.new.self.files.items
    (c.open.ensures.looks told).observes.folder (λ f has. c.take.ensures.kept f (c.close.ensures.kept f has)) (c.requires told)

pub returns-in-Err-clause-kept : goal.returns-in-Err-clause-kept
returns-in-Err-clause-kept g c told =
    open_still g.S.System.inode (g.S.System.view c.args.system.now) (g.S.System.view c.open.new.self) c.args.files.now.files.items c.close.new.self.files.items
    (c.open.ensures.looks told).observes.folder (λ f has. c.take.ensures.kept f (c.close.ensures.kept f has)) (c.requires told)
