use Rattle.std.proofs.Common.{length}
use Rattle.mem_segments.proofs.ordering.+halved_rows.Given as goal

abbrev pub decreases-halved_rows : goal.decreases-halved_rows
decreases-halved_rows l = length l.rows.now
