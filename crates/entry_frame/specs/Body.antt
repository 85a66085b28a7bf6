-- An entry's body, as it is read.
use Rattle.std.specs.Prelude.{◌≡◌, ℕ, ◌+◌, ◌-◌, ◌≤◌, ◌==◌, if◌then◌else◌, List, [], length, drop, slice_index, slice_range}
use Rattle.std.specs.List.{flat_map, AllByRecursion}
use Rattle.cell_model.specs.Cell.{Cell, HasForm, spelled, number_at}
use Rattle.cell_model.specs.declared.form.Form.{Form}
use Rattle.cell_model.specs.declared.form.Form.TheVariants.{Plain, Tagged}
use Rattle.cell_model.specs.Batch.{Batch, batch_form, head_length}

-- how the cells of an entry in a frame of this kind are spelled
abbrev pub form_of_kind : ℕ → Form
form_of_kind kind = if kind == 3 then Tagged else Plain

-- from a place on these cells stand after their count, 1 to 1,024, and nothing else
pub record IsCounted (form : Form) (bytes : List ℕ) (at : ℕ) (cs : List Cell) : Type 0 where
  pub given : 1 ≤ length cs
  pub count : length cs ≤ 1024
  pub each : AllByRecursion (HasForm form) cs
  pub told : number_at at 4 bytes ≡ length cs
  pub cells : drop (at + 4) bytes ≡ flat_map (spelled form) cs

-- the name of a tagged entry's table stands after the three numbers, with its length in front
abbrev pub HasTable : Form → List ℕ → List ℕ → Type 0
HasTable Plain bytes table = table ≡ []
HasTable Tagged bytes table = (slice_index bytes 20 ≡ length table) × (slice_range bytes 21 (21 + length table) ≡ table)

-- after the three numbers this batch stands, and its form is this one
pub record IsBatchIn (form : Form) (bytes : List ℕ) (b : Batch) : Type 0 where
  pub form_is : batch_form b ≡ form
  pub given : 1 ≤ length b.cells
  pub count : length b.cells ≤ 1024
  pub each : AllByRecursion (HasForm form) b.cells
  pub table : length b.table ≤ 255
  pub within : head_length form b ≤ length bytes
  pub named : HasTable form bytes b.table
  pub told : number_at (head_length form b - 4) 4 bytes ≡ length b.cells
  pub cells : drop (head_length form b) bytes ≡ flat_map (spelled form) b.cells
