use Rattle.wal_split.specs.Grouped.{AreJobsOf}
use Rattle.wal_split.proofs.grouping.jobs_of.Given as goal

abbrev pub invariant-loop-entry : goal.invariant-loop-entry
invariant-loop-entry l = AreJobsOf l.yielded l.number l.jobs.items
