use Rattle.std.proofs.Common.{◌≤◌, length}
use Rattle.disk_folder.proofs.calls.read_from.Given as goal

abbrev pub invariant-loop : goal.invariant-loop
invariant-loop l = l.filled ≤ length l.into
