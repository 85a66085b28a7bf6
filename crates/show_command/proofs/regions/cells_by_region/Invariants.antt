use Rattle.std.proofs.Common.{◌≡◌}
use Rattle.show_command.specs.Regions.{by_region}
use Rattle.show_command.proofs.regions.cells_by_region.Given as goal

abbrev pub invariant-loop-entry : goal.invariant-loop-entry
invariant-loop-entry l = l.lists.items ≡ by_region l.yielded
