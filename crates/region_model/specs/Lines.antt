-- A region's journal as its lines, which don't name the region.
use Rattle.std.specs.Prelude.{◌≡◌, ℕ, ◌+◌, ◌<◌, ◌==◌, if◌then◌else◌, Bool, List, [], ◌∷◌, length, map, filter, Contains}
use Rattle.cell_model.specs.Batch.{Batch}
use Rattle.cell_model.specs.Order.{Content, put_cells}
use Rattle.region_model.specs.Journal.{Base, Caller, Outcome, Pending, Edit, is_completed, is_done}

-- an edit of the region that keeps the journal
pub record Line : Type 0 where
  pub number : ℕ
  pub caller : Caller
  pub time : ℕ
  pub batch : Batch
  pub outcome : Outcome

-- the line as an edit of this region
abbrev pub edit_in : ℕ → Line → Edit
edit_in r x = record { entry = record { region = r; number = x.number; time = x.time; batch = x.batch }; caller = x.caller; outcome = x.outcome }

abbrev pub edits_in : ℕ → List Line → List Edit
edits_in r xs = map (edit_in r) xs

-- ---- what a journal of lines tells

-- the last line's number, or the base's where there is none
abbrev pub last_in : Base → List Line → ℕ
last_in base xs = base.last + length xs

-- a line that is begun
abbrev pub pending : ℕ → Caller → ℕ → Batch → Line
pending n caller time batch = record { number = n; caller = caller; time = time; batch = batch; outcome = Pending }

abbrev pub is_completed_line : Line → Bool
is_completed_line x = is_completed x.outcome

abbrev pub is_done_line : Line → Bool
is_done_line x = is_done x.outcome

-- the numbers of the completed lines
abbrev pub completed_in : List Line → List ℕ
completed_in xs = map (λ x. x.number) (filter is_completed_line xs)

-- the lines of one handler, in order
abbrev pub handled_lines : ℕ → List Line → List Line
handled_lines h xs = filter (λ x. x.caller.handler == h) xs

abbrev pub done_in : List Line → List Line
done_in xs = filter is_done_line xs

-- the line numbered n is begun and not completed
abbrev pub IsPending : List Line → ℕ → Type 0
IsPending xs n = (x : Line) × Contains xs x × (x.number ≡ n) × (x.outcome ≡ Pending)

-- of the line numbered n the outcome is o, and every other line stays
abbrev pub ended : ℕ → Outcome → Line → Line
ended n o x = if x.number == n then record x { outcome = o } else x

abbrev pub with_outcome : ℕ → Outcome → List Line → List Line
with_outcome n o xs = map (ended n o) xs

-- the caller's call is above that of each line of its handler
abbrev pub IsNextCall : Caller → List Line → Type 0
IsNextCall caller xs = (x : Line) → Contains xs x → x.caller.handler ≡ caller.handler → x.caller.call < caller.call

-- the content with the cells of these lines put in, one line after the other
abbrev pub put_lines : Content → List Line → Content
put_lines m [] = m
put_lines m (x ∷ xs) = put_lines (put_cells m x.number x.batch.cells) xs
