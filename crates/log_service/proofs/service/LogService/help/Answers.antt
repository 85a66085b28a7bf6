use Rattle.std.proofs.Common.{◌⊎◌, inl, inr, ◌+◌, sym, ap, ◌∙◌, subst, arith}
use Rattle.log_berth.specs.declared.known.Tally.{Tally}
use Rattle.log_berth.specs.Standing.{Standing}
use Rattle.log_service.specs.Places.{HadTurn, LastHadTurn}
use Rattle.log_service.proofs.service.LogService.help.Goals as goal

pub returns-in-Moved-default-clause-something : goal.returns-in-Moved-default-clause-something
returns-in-Moved-default-clause-something g c is =
    let old = c.args.seat.now in
    let new = c.sync_turn-commit.new.seat in
    let moved = c.consumer_turn-moves.ensures.had.0 c.in-Moved-default.field-0-0 c.in-Moved-default.is-0 in
    let same = ap (λ (t : Tally). t.tries + 1) c.consumer_turn-moves.ensures.looked in
    elim c.sync_turn-commit.ensures.tried as (λ _. LastHadTurn old.consumer.knows new.consumer.knows ⊎ HadTurn old.device.knows new.device.knows) [
      | inl alone ↦ inl (subst (λ (s : Standing). LastHadTurn old.consumer.knows s.knows) (sym alone) (omega (arith, moved.0), moved.1))
      | inr had ↦ inr (had.0 ∙ same, had.1)
    ]

pub returns-in-Moved-default-4-clause-something : goal.returns-in-Moved-default-4-clause-something
returns-in-Moved-default-4-clause-something g c is =
    let both = (c.sync_turn-commit.ensures.synced c.in-Moved-default.field-0-1 c.in-Moved-default.is-1).0 in
    let same = ap (λ (t : Tally). t.tries + 1) c.consumer_turn-moves.ensures.looked in
    inr (both.1.0 ∙ same, both.1.1)
