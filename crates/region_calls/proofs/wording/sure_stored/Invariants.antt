use Rattle.std.proofs.Common.{ℕ, ◌+◌, ◌<◌, ◌≤◌, slice_index}
use Rattle.pass_calls.specs.log_service.Closed.{stored_in}
use Rattle.region_calls.proofs.wording.sure_stored.Given as goal

abbrev pub invariant-checking : goal.invariant-checking
invariant-checking g l = record {
  each : (k : ℕ) → k < l.place → slice_index l.fn.lasts k ≤ stored_in l.fn.regions l.fn.words (k + 1);
}
