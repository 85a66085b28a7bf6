use Rattle.wal_split.proofs.Grouped.{one_grouped}
use Rattle.wal_split.proofs.grouping.jobs_of.Goals as goal

pub loop-entry-preserved : goal.loop-entry-preserved
loop-entry-preserved c =
    one_grouped c.loop-entry.yielded c.args.number c.loop-entry.jobs.items c.add_to.new.jobs.items c.in-Some.entry c.loop-entry.invariant c.add_to.ensures.in_range.0 c.add_to.ensures.in_range.1 c.add_to.ensures.valid c.in_ok-add_to.ensures.added
