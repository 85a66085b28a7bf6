use Rattle.std.proofs.Common.{rules, ◌≡◌, List, true, sym, ap, subst, ◌∙◌, filter}
use Rattle.log_model.specs.Entry.{Entry}
use Rattle.log_trucks.specs.Held.{Held, AreHeld, held_of}
use Rattle.log_trucks.specs.Unflushed.{has_unflushed}
use Rattle.log_trucks.proofs.KeptTrucks.{AreKept, kept_none, kept_more, kept_all}
use Rattle.log_trucks.proofs.chain.Chain.keep_unflushed.Goals as goal

pub loop-truck-init : goal.loop-truck-init
loop-truck-init c = subst (AreKept c.args.accounting.now c.args.region c.args.self.now c.args.self.now) (sym c.new-kept.ensures) (kept_none c.args.accounting.now c.args.region c.args.self.now)

pub loop-truck-preserved-then-is_left : goal.loop-truck-preserved-then-is_left
loop-truck-preserved-then-is_left c =
    let inv = subst (λ (l : List Held). AreKept c.args.accounting.now c.args.region c.args.self.now l c.loop-truck.kept) c.in-Some.ensures.first c.loop-truck.invariant in
    subst (AreKept c.args.accounting.now c.args.region c.args.self.now c.pop.new.self) (sym c.push.ensures)
    (kept_more c.args.accounting.now c.args.region c.args.self.now (held_of c.in-Some.truck.value) c.pop.new.self c.loop-truck.kept inv (λ e held. search rules))

pub returns : goal.returns
returns c = λ es held.
    subst (λ (l : List Held). AreHeld l (filter (has_unflushed c.args.accounting.now c.args.region) es)) (sym c.reversed.ensures)
    (kept_all c.args.accounting.now c.args.region c.args.self.now c.loop-truck.self c.loop-truck.kept c.loop-truck.invariant c.in_default.ensures.first.0 es held)
