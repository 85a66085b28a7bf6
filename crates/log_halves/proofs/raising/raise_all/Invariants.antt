use Rattle.std.proofs.Common.{◌≡◌, ◌<◌, ℕ, true, false}
use Rattle.std.specs.Prelude.{slice_index}
use Rattle.log_berth.specs.Words.{NoMore}
use Rattle.log_halves.proofs.raising.raise_all.Given as goal

abbrev pub invariant-loop-word : goal.invariant-loop-word
invariant-loop-word g l = record {
  berth : l.seat.berth ≡ l.fn.seat.berth;
  turn : l.seat.knows.turn ≡ true;
  whole : l.seat.knows.broken ≡ false;
  tally : l.seat.knows.tally ≡ l.fn.seat.knows.tally;
  later : NoMore l.fn.seat.knows.seen l.seat.knows.seen;
  below : NoMore l.seat.knows.seen (g.W.Ware.numbers l.fn.turn.ware);
  done : (i : ℕ) → i < l.word → slice_index l.seat.knows.seen i ≡ slice_index (g.W.Ware.numbers l.fn.turn.ware) i;
}
