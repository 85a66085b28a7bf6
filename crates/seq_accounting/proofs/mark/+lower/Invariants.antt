use Rattle.std.proofs.Common.{◌+◌, ◌*◌, length}
use Rattle.seq_accounting.specs.Branch.{linked}
use Rattle.seq_accounting.proofs.mark.+lower.Given as goal

abbrev pub decreases-Mark::is_lower : goal.decreases-Mark::is_lower
decreases-Mark::is_lower l = 2 * length l.self.now.below + 1

abbrev pub decreases-is_lower_below : goal.decreases-is_lower_below
decreases-is_lower_below l = 2 * length (linked l.link.now)
