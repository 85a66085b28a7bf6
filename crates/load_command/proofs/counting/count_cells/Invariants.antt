use Rattle.std.proofs.Common.{◌≡◌, ◌-◌, ◌^◌, min, take, sum_by}
use Rattle.load_command.specs.Counted.{cells_of}
use Rattle.load_command.proofs.counting.count_cells.Given as goal

-- the cells of the regions so far
abbrev pub invariant-loop-region : goal.invariant-loop-region
invariant-loop-region l = l.total ≡ min (sum_by cells_of (take l.region-index l.regions)) (2 ^ 64 - 1)
