use Rattle.std.proofs.Common.{◌-◌, ◌^◌, ◌≤◌}
use Rattle.log_archive.proofs.FirstLaws.{NoneUpTo}
use Rattle.log_archive.proofs.first.first_to_go.Given as goal

abbrev pub invariant-loop-file : goal.invariant-loop-file
invariant-loop-file l = (l.fn.above ≤ l.after) × NoneUpTo l.accounting l.fn.above l.after

abbrev pub decreases-loop-file : goal.decreases-loop-file
decreases-loop-file l = 2 ^ 64 - l.after
