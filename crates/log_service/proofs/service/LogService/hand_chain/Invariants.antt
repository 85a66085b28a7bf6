use Rattle.std.specs.Prelude.{◌≡◌, ◌≤◌, false}
use Rattle.log_service.proofs.service.LogService.hand_chain.Given as goal

abbrev pub invariant-loop-try : goal.invariant-loop-try
invariant-loop-try g l = record {
  seat : l.seat.berth ≡ l.fn.seat.berth;
  turn : l.seat.knows.turn ≡ false;
  tries : l.fn.seat.knows.tally.tries ≤ l.seat.knows.tally.tries;
}
