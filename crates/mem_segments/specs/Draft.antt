-- When a draft is that of a batch.
use Rattle.std.specs.Prelude.{◌≡◌, ℕ, List}
use Rattle.std.specs.FinMap.{empty}
use Rattle.cell_model.specs.Cell.{Cell}
use Rattle.cell_model.specs.Order.{put_cells}

-- whatever number they get, these cells put what those put
abbrev pub IsDraftOf : List Cell → List Cell → Type 0
IsDraftOf draft cells = (number : ℕ) → put_cells empty number draft ≡ put_cells empty number cells
