use Rattle.show_command.proofs.RegionLaws.{entry_added}
use Rattle.show_command.proofs.regions.cells_by_region.Goals as goal

pub loop-entry-preserved : goal.loop-entry-preserved
loop-entry-preserved c =
    entry_added c.in-Some.entry c.loop-entry.yielded c.loop-entry.lists.items c.add_entry.new.lists.items
    c.add_entry.ensures.in_range.0 c.add_entry.ensures.in_range.1 c.loop-entry.invariant c.in_ok-add_entry.ensures.added
