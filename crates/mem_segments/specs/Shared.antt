-- Where a shared cell stands.
use Rattle.std.specs.Prelude.{ℕ, ◌<◌, List, [], length, get_or, ⊤}
use Rattle.std.specs.Arc.{arc_value}
use Rattle.cell_model.specs.Cell.{Cell}
use Rattle.mem_segments.specs.declared.shared_cell.Block.{Block}
use Rattle.mem_segments.specs.declared.shared_cell.Block.TheVariants.{Own, OfBatch}

-- what stands at no place
abbrev none_there : Cell
none_there = record { row = []; family = []; qualifier = []; ts = 0; kind = 0; value = []; tags = [] }

abbrev pub cell_at : List Cell → ℕ → Cell
cell_at cells place = get_or cells place none_there

abbrev pub cell_in : Block → Cell
cell_in (Own cell) = arc_value cell
cell_in (OfBatch place batch) = cell_at (arc_value batch).cells place

abbrev pub IsIn : Block → Type 0
IsIn (Own cell) = ⊤
IsIn (OfBatch place batch) = place < length (arc_value batch).cells
