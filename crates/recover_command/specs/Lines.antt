-- What is printed of regions as they were recovered.
use Rattle.std.specs.Prelude.{ℕ, ◌+◌, List, [], ◌∷◌}
use Rattle.std.specs.FinMap.{len}
use Rattle.script_model.specs.Outputs.{RecoveredLine}
use Rattle.region_replay.specs.Ready.{Found}

abbrev pub line_of : ℕ → Found → RecoveredLine
line_of r x = record { region = r; last = x.base.last; count = len x.base.content }

-- those of the regions from this one on
abbrev pub lines_from : ℕ → List Found → List RecoveredLine
lines_from r [] = []
lines_from r (x ∷ xs) = line_of r x ∷ lines_from (r + 1) xs
