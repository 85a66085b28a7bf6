-- What the lines so far have said, as the parser keeps it.
use Rattle.std.specs.Prelude.{◌≡◌, ℕ, ◌+◌, ◌-◌, ◌^◌, ◌<◌, ◌≤◌, Bool, List, [], length, sum_by, All, Option, None, IfSome, unwrap_or}
use Rattle.cell_model.specs.Cell.{Cell, spelled_length}
use Rattle.cell_model.specs.Batch.{Batch, are_untagged, body_length}
use Rattle.cell_model.specs.declared.form.Form.TheVariants.{Tagged}
use Rattle.region_model.specs.Calls.{Call}
use Rattle.script_calls.specs.Calls.{call_of}
use Rattle.script_lines.specs.Spoken.{IsCallOf}
use Rattle.script_text.specs.declared.state.HandlerCall.{HandlerCall}

abbrev pub handler_call : HandlerCall → ℕ × Call
handler_call x = (x.handler, call_of x.call)

abbrev pub InScript : (handlers regions : Option ℕ) → ℕ × Call → Type 0
InScript handlers regions c = IsCallOf (unwrap_or handlers 0) (unwrap_or regions 0) c.0 c.1

-- the limits of the head lines and of what stands after them
pub record IsHead (time regions handlers : Option ℕ) : Type 0 where
  pub time_below : IfSome time (λ t. t < 2 ^ 63 - 1)
  pub regions_within : IfSome regions (λ n. (1 ≤ n) × (n ≤ 64))
  pub handlers_within : IfSome handlers (λ n. (1 ≤ n) × (n ≤ 16))

-- the open put is one of the handlers' on one of the regions, as long as its cells are due
pub record IsOpen (handlers regions : Option ℕ) (handler region due : ℕ) : Type 0 where
  pub handler_within : 0 < due → (1 ≤ handler) × (handler ≤ unwrap_or handlers 0)
  pub region_within : 0 < due → (1 ≤ region) × (region ≤ unwrap_or regions 0)

-- the cells of the open put, with their tagged spellings' length and whether none has tags: with the name of the table
-- they are within the limits of a batch
pub record IsFilling (batch : Batch) (tagged_len : ℕ) (untagged : Bool) : Type 0 where
  pub len_is : tagged_len ≡ sum_by (spelled_length Tagged) batch.cells
  pub untagged_is : untagged ≡ are_untagged batch.cells
  pub table_below : length batch.table ≤ 255
  pub count_below : length batch.cells ≤ 1024
  pub body_below : body_length batch ≤ 1048576

-- so many cells are still due of a put
pub record IsDue (cells : List Cell) (due : ℕ) : Type 0 where
  pub count_below : length cells + due ≤ 1024
  pub none_open : due ≡ 0 → cells ≡ []

-- no call comes before the head lines
pub record IsBehindHead (regions handlers : Option ℕ) (calls : List (ℕ × Call)) (due : ℕ) : Type 0 where
  pub regions_first : regions ≡ None → handlers ≡ None
  pub handlers_first : handlers ≡ None → calls ≡ []
  pub none_due : handlers ≡ None → due ≡ 0
  pub calls_within : All (InScript handlers regions) calls
