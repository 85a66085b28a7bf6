use Rattle.std.proofs.Common.{inl, inr, refl, sym, ap, ◌∙◌}
use Rattle.region_lock.specs.log_service.declared.tally.Asked.{Asked}
use Rattle.region_lock.specs.log_service.Tallies.{asked_for}
use Rattle.region_lock.proofs.Knowns.{later_refl}
use Rattle.region_lock.proofs.log_service_laws.SeatLaws.{later_trans}
use Rattle.pass_calls.proofs.put.ask.Goals as goal

pub asking-init : goal.asking-init
asking-init g c = (c.requires.service.seat, later_refl c.args.seat.now, refl)

pub asking-preserved : goal.asking-preserved
asking-preserved g c =
    let i = c.asking.invariant in (
      c.help.ensures.seat,
      later_trans c.args.seat.now c.asking.seat c.help.new.seat i.1 (later_trans c.asking.seat c.broken.new.seat c.help.new.seat c.broken.ensures.later c.help.ensures.later),
      c.ask.ensures.uncounted c.if-ask.false ∙ i.2,
    )

pub returns-then-ask-clause-asked : goal.returns-then-ask-clause-asked
returns-then-ask-clause-asked g c = inl (c.ask.ensures.counted c.if-ask.true ∙ ap (λ (a : Asked). asked_for c.args.region c.args.number a) c.asking.invariant.2)

pub returns-then-broken-clause-asked : goal.returns-then-broken-clause-asked
returns-then-broken-clause-asked g c = inr (c.ask.ensures.uncounted c.if-ask.false ∙ c.asking.invariant.2, sym c.broken.ensures.broken ∙ c.if-broken.true)
