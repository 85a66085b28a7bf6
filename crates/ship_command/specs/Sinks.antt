-- What a peer that writes to a sink has written.
use Rattle.std.specs.Prelude.{◌≡◌, ℕ, Bool, false, IsTrue, List, [], ◌∷◌, ◌++◌, length, codes}
use Rattle.std.specs.List.{flat_map}
use Rattle.std.specs.Fmt.{decimal}
use Rattle.log_model.specs.Entry.{Entry}
use Rattle.script_model.specs.Report.{line, cell_line}
use Rattle.script_model.specs.Outputs.{table_line}
use Rattle.chronicle_model.specs.Chronicle.{Placed, Position}
use Rattle.ship_queue.specs.Messages.{Message, Entry_of, Record_of}

-- the cells of an entry as stored
abbrev pub cells_text : Entry → List ℕ
cells_text e = flat_map (λ c. cell_line (e.number, c)) e.batch.cells

-- its file, place, region, number, write time and count of cells
unfoldable pub ship_line : Placed → List ℕ
ship_line x = line (codes "ship" ∷ decimal x.file ∷ decimal x.place ∷ decimal x.entry.region
    ∷ decimal x.entry.number ∷ decimal x.entry.time ∷ decimal (length x.entry.batch.cells) ∷ [])

unfoldable pub position_line : Position → List ℕ
position_line q = line (codes "position" ∷ decimal q.file ∷ decimal q.entries ∷ [])

-- an entry, the name of its table, and its cells; or a record
abbrev pub message_text : Message → List ℕ
message_text (Entry_of x) = ship_line x ++ (table_line x.entry.batch.table ++ cells_text x.entry)
message_text (Record_of q) = position_line q

-- The sink tells what it took, no call has failed, and after what the sink had it took these messages.
pub record HasWritten (told failed : Bool) (before now : List ℕ) (ms : List Message) : Type 0 where
  pub tells : IsTrue told
  pub whole : failed ≡ false
  pub is : now ≡ before ++ flat_map message_text ms

-- Of the bytes that it had, and of a text after them, a sink has a beginning.
pub record IsCutIn (now before text : List ℕ) : Type 0 where
  pub rest : List ℕ
  pub is : before ++ text ≡ now ++ rest

-- The sink tells what it took. After what it had it took these messages and this one, or a beginning of them.
pub record IsTorn (told : Bool) (before now : List ℕ) (ms : List Message) (m : Message) : Type 0 where
  pub tells : IsTrue told
  pub cut : IsCutIn now before (flat_map message_text ms ++ message_text m)
