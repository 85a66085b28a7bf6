use Rattle.std.proofs.Common.{◌≡◌, ◌-◌, ◌≤◌, ◌<◌, false, [], replicate}
use Rattle.std.specs.Prelude.{vec_capacity}
use Rattle.log_berth.specs.Words.{known, idle}
use Rattle.log_berth.specs.Standing.{fresh}
use Rattle.log_berth.proofs.opening.deal.Given as goal

abbrev pub invariant-loop-made : goal.invariant-loop-made
invariant-loop-made g l = record {
  of : l.first.table_id ≡ l.shared.table_id;
  words : 0 < l.shared.table_id.words;
  known : l.first.me.0 ≡ known (l.count - l._made) false l.fn.first.me.0.seen false [] idle;
  made : l.seats.items ≡ replicate l._made (fresh l.shared.table_id l.fn.first.me.0.seen);
  room : l.count ≤ vec_capacity l.seats;
}
