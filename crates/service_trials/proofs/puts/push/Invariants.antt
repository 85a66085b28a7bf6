use Rattle.std.proofs.Common.{◌≡◌}
use Rattle.crossbeam_queue.specs.Passes.{view}
use Rattle.log_service.specs.Places.{IsSeatOf}
use Rattle.service_trials.proofs.puts.push.Given as goal

abbrev pub invariant-loop-try : goal.invariant-loop-try
invariant-loop-try g l = record {
  same : (l.pass.pass.table_id ≡ l.fn.pass.pass.table_id) × (l.pass.region ≡ l.fn.pass.region);
  view : view l.pass.pass ≡ view l.fn.pass.pass;
  item : l.item ≡ l.fn.item;
  seat : IsSeatOf l.service l.seat;
}
