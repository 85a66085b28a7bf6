use Rattle.std.proofs.Common.{IsTrue}
use Rattle.log_command.proofs.Commits.{IsCommitting}
use Rattle.log_command.proofs.writing.commit_each.Given as goal

abbrev pub invariant-loop-done : goal.invariant-loop-done
invariant-loop-done g l = IsCommitting (IsTrue g.D.Disk.told) g.D.Disk.view g.D.Disk.faults l.initial.disk l.disk l.initial.log l.log l.frames l.done
