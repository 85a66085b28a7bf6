use Rattle.std.proofs.Common.{◌≡◌, ℕ, IfOk, Option, subst}
use Rattle.folder_system.proofs.Watched.{calm_look, calm_looks, size_at}
use Rattle.folder_system.proofs.Good.{keeps_still}
use Rattle.folder_system.proofs.looking.size_of.Goals as goal

pub returns-clause-size : goal.returns-clause-size
returns-clause-size g c told =
    let v = g.S.System.view c.args.system.now in
    subst (λ (s : Option ℕ). IfOk c.length.result (λ size. size ≡ s)) (size_at v.folder v.bytes c.args.name) (c.length.ensures.length told (λ i is. c.requires told c.args.name i is))

pub returns-clause-looks : goal.returns-clause-looks
returns-clause-looks g c told =
    let old = g.S.System.view c.args.system.now in
    let new = g.S.System.view c.length.new.self in
    calm_looks old new (c.requires told) (calm_look old new (g.met.S.System.is_true c.args.system.now told) (c.length.ensures.looks told).observes)

pub returns-clause-keeps : goal.returns-clause-keeps
returns-clause-keeps g c told =
    let old = g.S.System.view c.args.system.now in
    let new = g.S.System.view c.length.new.self in
    keeps_still old new (calm_look old new (g.met.S.System.is_true c.args.system.now told) (c.length.ensures.looks told).observes) (c.length.ensures.looks told).sure

pub returns-clause-stays : goal.returns-clause-stays
returns-clause-stays g c told = (c.length.ensures.looks told).observes.folder
