use Rattle.std.proofs.Common.{◌≡◌, ℕ, ◌+◌, ◌<◌, length, map, Some, slice_get}
use Rattle.pass_calls.specs.log_service.Places.{ServiceId}
use Rattle.region_model.specs.Lines.{edits_in}
use Rattle.server_model.specs.Pass.{Pass as ThePass}
use Rattle.pass_calls.specs.region_lock.Met.{IsMet}
use Rattle.region_calls.specs.Deals.{AllOf}
use Rattle.region_calls.specs.Passes.{knows}
use Rattle.region_calls.proofs.meeting.meet_all.Given as goal

abbrev pub invariant-meeting : goal.invariant-meeting
invariant-meeting g l = record {
  same : l.locked ≡ l.fn.locked;
  known : map knows l.passes.items ≡ map knows l.fn.passes.items;
  of : (the : ServiceId) → AllOf the l.fn.passes.items → AllOf the l.passes.items;
  count : length l.passes.items ≡ length l.fn.passes.items;
  met : (k : ℕ) (p : ThePass) → k < l.at → slice_get (map knows l.fn.passes.items) k ≡ Some p
      → IsMet l.fn.locked.state.base (edits_in l.fn.locked.state.region l.fn.locked.state.lines) p.handler (p.known (l.fn.place + 1));
}
