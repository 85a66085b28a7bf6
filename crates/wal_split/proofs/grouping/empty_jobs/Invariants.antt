use Rattle.wal_split.specs.Grouped.{AreEmptyJobs}
use Rattle.wal_split.proofs.grouping.empty_jobs.Given as goal

abbrev pub invariant-loop-before : goal.invariant-loop-before
invariant-loop-before l = AreEmptyJobs l.number l.before l.jobs.items
