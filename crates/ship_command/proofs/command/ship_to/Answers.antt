use Rattle.std.proofs.Common.{[], sym, ap, ◌∙◌}
use Rattle.ship_command.proofs.Ships.{begun, printed, torn}
use Rattle.ship_command.proofs.command.ship_to.Goals as goal

pub returns-clause-same_reference : goal.returns-clause-same_reference
returns-clause-same_reference g c = c.ship_all.ensures.stays.0

pub returns-clause-written : goal.returns-clause-written
returns-clause-written g c told taken other =
    printed (g.D.Disk.view c.args.disk.now).files c.args.tail.now c.ship_all.new.tail g.K.Sink.told _ _ _ _ c.ship_all.result
    (ap g.K.Sink.taken (c.ship_all.ensures.stays.1 ∙ c.requires.first)) (c.ship_all.ensures.leads told)
    (c.ship_all.ensures.ships told [] (begun g.K.Sink.told _ _ _ taken c.requires.whole (ap g.K.Sink.taken (sym c.requires.first))) other)
    c.ship_all.ensures.position (c.ship_all.ensures.all told) (c.ship_all.ensures.damaged told) (c.ship_all.ensures.no_position told)

pub returns-clause-torn : goal.returns-clause-torn
returns-clause-torn g c told taken failed =
    torn (g.D.Disk.view c.args.disk.now).files c.args.tail.now g.K.Sink.told _ _ _ (ap g.K.Sink.taken (c.ship_all.ensures.stays.1 ∙ c.requires.first))
    (c.ship_all.ensures.torn told [] (begun g.K.Sink.told _ _ _ taken c.requires.whole (ap g.K.Sink.taken (sym c.requires.first))) failed)

pub returns-clause-damaged : goal.returns-clause-damaged
returns-clause-damaged g c told name at is = (c.ship_all.new.tail, c.ship_all.ensures.leads told, c.ship_all.ensures.damaged told name at is)

pub returns-clause-damage : goal.returns-clause-damage
returns-clause-damage g c told name at there = c.ship_all.ensures.damage told there.0 name at there.1 there.2

pub returns-clause-no_position : goal.returns-clause-no_position
returns-clause-no_position g c told file has is = (c.ship_all.new.tail, c.ship_all.ensures.leads told, c.ship_all.ensures.no_position told file has is)

pub returns-clause-out : goal.returns-clause-out
returns-clause-out g c told file has there = c.ship_all.ensures.out told there.0 file has there.1 there.2
