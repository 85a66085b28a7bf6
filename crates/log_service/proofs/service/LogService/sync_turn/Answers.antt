use Rattle.std.proofs.Common.{true≢false, sym, ◌∙◌}
use Rattle.log_service.proofs.SeatLaws.{both_since, taken_since, tried_since, synced_since, broken_only, no_both, not_set}
use Rattle.log_service.proofs.service.LogService.sync_turn.Goals as goal

pub returns-clause-synced : goal.returns-clause-synced
returns-clause-synced g c n is =
    let said = c.turn_over.ensures.synced n is in (
      both_since c.args.seat.now c.broken.new.seat c.turn_over.new.seat c.broken.ensures.same.0 c.broken.ensures.looked said.0,
      synced_since g.D.Disk g.N.ServiceNaming c.args.seat.now.device.knows c.broken.new.seat.device.knows c.turn_over.new.seat.device.knows n c.broken.ensures.same.1 said.1,
    )

pub returns-clause-clean : goal.returns-clause-clean
returns-clause-clean g c is =
    let said = c.turn_over.ensures.clean is in
    (both_since c.args.seat.now c.broken.new.seat c.turn_over.new.seat c.broken.ensures.same.0 c.broken.ensures.looked said.0, said.1)

pub returns-clause-busy : goal.returns-clause-busy
returns-clause-busy g c is = taken_since c.args.seat.now c.broken.new.seat c.turn_over.new.seat c.broken.ensures.same.0 c.broken.ensures.looked (c.turn_over.ensures.busy is)

pub returns-clause-fault : goal.returns-clause-fault
returns-clause-fault g c is =
    let said = c.turn_over.ensures.fault is in (
      both_since c.args.seat.now c.broken.new.seat c.turn_over.new.seat c.broken.ensures.same.0 c.broken.ensures.looked said.0,
      not_set c.args.seat.now.device.knows.broken (λ broken. true≢false (sym (c.broken.ensures.later.fault broken).0 ∙ said.1)),
      said.2,
    )

pub returns-clause-tried : goal.returns-clause-tried
returns-clause-tried g c = tried_since c.args.seat.now c.broken.new.seat c.turn_over.new.seat c.broken.ensures.same.0 c.broken.ensures.looked c.turn_over.ensures.tried

pub returns-clause-broken : goal.returns-clause-broken
returns-clause-broken g c =
    let clear = sym c.broken.ensures.broken ∙ c.if-broken.false in (
      (λ is. let said = c.turn_over.ensures.broken is in (said.0, said.1 ∙ c.broken.ensures.same.0)),
      (λ found.
          broken_only c.turn_over.result c.turn_over.new.seat.device.knows.broken found.0
          (λ is.
          no_both c.args.seat.now c.turn_over.new.seat found.1
          (both_since c.args.seat.now c.broken.new.seat c.turn_over.new.seat c.broken.ensures.same.0 c.broken.ensures.looked (c.turn_over.ensures.fault is).0))
          (λ other fault. c.turn_over.ensures.whole other fault clear)),
    )
