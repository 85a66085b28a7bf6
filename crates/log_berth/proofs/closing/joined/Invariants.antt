use Rattle.std.proofs.Common.{◌≡◌, ◌+◌, ◌<◌, false, [], length, vec_len}
use Rattle.log_berth.specs.Words.{Informs}
use Rattle.log_berth.specs.Standing.{AreBack}
use Rattle.log_berth.proofs.Joined.{InformLater}
use Rattle.log_berth.proofs.closing.joined.Given as goal

abbrev pub invariant-loop-seat : goal.invariant-loop-seat
invariant-loop-seat g l = record {
  of : l.me.table_id ≡ l.shared.table_id;
  slots : l.me.me.1 ≡ [];
  off : l.me.me.0.turn ≡ false;
  words : 0 < l.shared.table_id.words;
  parts : l.me.me.0.parts + length l.seats.items ≡ l.fn.me.me.0.parts + length l.fn.seats.items;
  back : AreBack l.shared.table_id l.seats.items;
  first : Informs l.fn.me.me.0 l.me.me.0;
  later : InformLater l.fn.seats.items l.seats.items l.me.me.0;
}

abbrev pub decreases-loop-seat : goal.decreases-loop-seat
decreases-loop-seat g l = vec_len l.seats
