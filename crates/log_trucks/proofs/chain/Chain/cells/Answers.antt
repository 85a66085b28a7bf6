use Rattle.std.proofs.Common.{rules, ◌≡◌, ◌∙◌, sym, ap, subst, List, ◌∷◌, ◌++◌}
use Rattle.log_trucks.proofs.TakenCells.{AreTaken, taken_more}
use Rattle.log_trucks.specs.Held.{Held, held_of}
use Rattle.log_trucks.specs.Links.{linked}
use Rattle.log_trucks.proofs.chain.Chain.cells.Goals as goal

pub loop-link-preserved : goal.loop-link-preserved
loop-link-preserved c =
    let links : linked c.loop-link.link.now ≡ held_of c.deref-in-Some-2.result.now ∷ linked c.behind-truck-in-Some-2.inside.next = search rules in
    taken_more c.args.accounting.now c.args.region c.args.family.now c.args.self.now c.loop-link.cells c.append.new.all (held_of c.deref-in-Some-2.result.now) (linked c.behind-truck-in-Some-2.inside.next)
    (subst (AreTaken c.args.accounting.now c.args.region c.args.family.now c.args.self.now c.loop-link.cells) links c.loop-link.invariant)
    (λ e held. search rules)
