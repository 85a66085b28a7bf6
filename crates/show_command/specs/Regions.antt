-- The cells of a log's entries, by region.
use Rattle.std.specs.Prelude.{ℕ, ◌+◌, List, [], ◌∷◌, ◌++◌, map}
use Rattle.std.specs.List.{flat_map, range_with_len}
use Rattle.std.specs.FinMap.{empty}
use Rattle.cell_model.specs.Order.{NumberedCell, cells_of}
use Rattle.cell_model.specs.Merge.{at_number, put_numbered}
use Rattle.log_model.specs.Entry.{Entry}
use Rattle.log_model.specs.Recovered.{entries_of}
use Rattle.script_model.specs.Outputs.{cells_text}

-- each with the number of its entry, in the order of the list
abbrev pub numbered_cells : List Entry → List NumberedCell
numbered_cells es = flat_map (λ e. at_number e.number e.batch.cells) es

-- those of regions 1 to 64
abbrev pub by_region : List Entry → List (List NumberedCell)
by_region es = map (λ r. numbered_cells (entries_of r es)) (range_with_len 1 64)

-- of lists of cells, what is printed of their contents as those of the regions from this one on
abbrev pub parts_from : ℕ → List (List NumberedCell) → List ℕ
parts_from r [] = []
parts_from r (xs ∷ xss) = cells_text r (cells_of (put_numbered empty xs)) ++ parts_from (r + 1) xss
