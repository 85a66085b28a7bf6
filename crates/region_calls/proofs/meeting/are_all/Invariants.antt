use Rattle.std.proofs.Common.{◌≡◌, ℕ, ◌≤◌, map, Contains}
use Rattle.server_model.specs.Pass.{Pass as ThePass}
use Rattle.region_calls.specs.Passes.{knows}
use Rattle.region_calls.proofs.meeting.are_all.Given as goal

abbrev pub invariant-counting : goal.invariant-counting
invariant-counting g l = record {
  each : (h : ℕ) → 1 ≤ h → h ≤ l.before → (p : ThePass) × Contains (map knows l.fn.passes) p × (p.handler ≡ h);
}
