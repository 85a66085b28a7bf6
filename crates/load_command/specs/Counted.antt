-- Cells of regions that were recovered.
use Rattle.std.specs.Prelude.{ℕ}
use Rattle.std.specs.FinMap.{len}
use Rattle.run_command.specs.region_replay.Ready.{Found}

abbrev pub cells_of : Found → ℕ
cells_of x = len x.base.content
