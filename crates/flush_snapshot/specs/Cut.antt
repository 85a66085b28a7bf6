-- The store that a cut of cells becomes.
use Rattle.std.specs.Prelude.{◌≡◌, ◌≢◌, ◌≤◌, ℕ, List, []}
use Rattle.std.specs.List.{AllByRecursion}
use Rattle.std.specs.FinMap.{empty}
use Rattle.cell_model.specs.Order.{Content, NumberedCell, cells_of}
use Rattle.cell_model.specs.Merge.{put_numbered}
use Rattle.log_model.specs.declared.name.Name.{Name}
use Rattle.log_model.specs.StoreText.{Store}

-- the cells in order; of two with one key and sequence id the later one stays
abbrev pub ordered_cells : List NumberedCell → List NumberedCell
ordered_cells cut = cells_of (put_numbered empty cut)

-- the store of a segment's cells
abbrev pub segment_store : Name → List ℕ → ℕ → ℕ → Content → Store
segment_store name family from to segment = record { region = name.region; scope = 0; family = family; from = from; to = to; cells = cells_of segment }

abbrev pub cut_store : Name → List ℕ → ℕ → ℕ → List NumberedCell → Store
cut_store name family from to cut = segment_store name family from to (put_numbered empty cut)

-- each cell's sequence id lies between these
abbrev pub IsWithin : ℕ → ℕ → List NumberedCell → Type 0
IsWithin from to cut = AllByRecursion (λ x. (from ≤ x.0) × (x.0 ≤ to)) cut

-- each cell is of this family, where it isn't empty
abbrev pub AreOf : List ℕ → List NumberedCell → Type 0
AreOf family cut = AllByRecursion (λ x. family ≢ [] → x.1.family ≡ family) cut
