-- What is wrong with a line, and what a right one says: a field at a time from the left, and after all others what the command does not take.
use Rattle.std.specs.Prelude.{ℕ, Bool, false, if◌then◌else◌, List, [], ◌∷◌, Option, Some, None, codes}
use Rattle.cell_model.specs.Cell.{Cell}
use Rattle.cell_model.specs.Batch.{Batch}
use Rattle.region_model.specs.Calls.{Call, Scan, Raw, Flush, Roll, get_call}
use Rattle.script_model.specs.Text.{number_of}
use Rattle.script_model.specs.declared.command.Command.{Command}
use Rattle.script_model.specs.Fields.{Why, why, first_of, is, bytes_of, cell_of, tagged_with, number_fault, token_fault, sized_fault, ts_fault, kind_fault, room_fault, table_name_fault, mode_fault, here_fault, get_here_fault, one_here_fault, mode_here_fault, kind_here_fault}

-- a line whose first word is unknown or not allowed here, or that has another number of words
abbrev pub misplaced : Option Why
misplaced = Some (why 1)

-- another line where a cell is due, or a cell where none is
abbrev pub undue : Option Why
undue = Some (why 6)

-- the number after the first word
abbrev pub second_number : List (List ℕ) → ℕ
second_number (a ∷ n ∷ words) = number_of n
second_number _ = 0

-- a head line
abbrev pub head_fault : (name : List ℕ) (low high : ℕ) → List (List ℕ) → Option Why
head_fault name low high (a ∷ n ∷ []) = if is a name then number_fault low high (why 2) n else misplaced
head_fault name low high _ = misplaced

-- a head line that tells how many there are of something: `log` takes one alone
abbrev pub counted_fault : Command → (name : List ℕ) (high : ℕ) → List (List ℕ) → Option Why
counted_fault command name high words = first_of (head_fault name 1 high words) (one_here_fault command (second_number words))

-- the line of the table's name
abbrev pub table_fault : Command → List (List ℕ) → Option Why
table_fault command (a ∷ name ∷ []) = first_of (table_name_fault name) (here_fault command)
table_fault command _ = misplaced

abbrev pub handler_fault : (handlers : ℕ) → List ℕ → Option Why
handler_fault handlers h = number_fault 1 handlers (why 5) h

abbrev pub region_fault : (regions : ℕ) → List ℕ → Option Why
region_fault regions r = number_fault 1 regions (why 4) r

abbrev pub put_fault : Command → (handlers regions : ℕ) (h r mode count : List ℕ) → Option Why
put_fault command handlers regions h r mode count =
    first_of (handler_fault handlers h) (first_of (region_fault regions r) (first_of (mode_fault mode) (first_of (number_fault 1 1024 (why 6) count) (mode_here_fault command mode))))

abbrev pub scan_fault : Command → (handlers regions : ℕ) (h r from to : List ℕ) → Option Why
scan_fault command handlers regions h r from to =
    first_of (handler_fault handlers h) (first_of (region_fault regions r) (first_of (token_fault from) (first_of (token_fault to) (here_fault command))))

-- a flush of one family
abbrev pub family_fault : Command → (handlers regions : ℕ) (h r family : List ℕ) → Option Why
family_fault command handlers regions h r family =
    first_of (handler_fault handlers h) (first_of (region_fault regions r) (first_of (sized_fault 2 1 127 family) (here_fault command)))

-- a get of up to 1,000,000 versions of each column of a row
abbrev pub get_fault : Command → (handlers regions : ℕ) (h r row versions : List ℕ) → Option Why
get_fault command handlers regions h r row versions =
    first_of (handler_fault handlers h) (first_of (region_fault regions r)
    (first_of (sized_fault 1 1 32767 row) (first_of (number_fault 1 1000000 (why 6) versions) (get_here_fault command))))

-- a line of calls, by its words
abbrev pub call_fault : Command → (handlers regions : ℕ) → List (List ℕ) → Option Why
call_fault command handlers regions (a ∷ h ∷ []) =
    if is a (codes "roll") then first_of (handler_fault handlers h) (here_fault command) else misplaced
call_fault command handlers regions (a ∷ h ∷ r ∷ []) =
    if is a (codes "flush") then first_of (handler_fault handlers h) (first_of (region_fault regions r) (here_fault command)) else misplaced
call_fault command handlers regions (a ∷ h ∷ r ∷ x ∷ []) =
    if is a (codes "flush") then family_fault command handlers regions h r x else misplaced
call_fault command handlers regions (a ∷ h ∷ r ∷ x ∷ y ∷ []) =
    if is a (codes "put") then put_fault command handlers regions h r x y
    else (if is a (codes "scan") then scan_fault command handlers regions h r x y
    else (if is a (codes "get") then get_fault command handlers regions h r x y else misplaced))
call_fault command handlers regions _ = misplaced

-- the six fields that each cell has
abbrev pub six_fields_fault : (time : ℕ) (row family qualifier ts kind value : List ℕ) → Option Why
six_fields_fault time row family qualifier ts kind value =
    first_of (sized_fault 1 1 32767 row) (first_of (sized_fault 2 1 127 family) (first_of (sized_fault 3 0 32767 qualifier)
    (first_of (ts_fault time ts) (first_of (kind_fault kind) (sized_fault 4 0 65536 value)))))

-- a cell, after those that its put has so far
abbrev pub cell_fault : Command → ℕ → Batch → (row family qualifier ts kind value : List ℕ) → Option Why
cell_fault command time batch row family qualifier ts kind value =
    first_of (six_fields_fault time row family qualifier ts kind value)
    (first_of (room_fault batch (cell_of time row family qualifier ts kind value)) (kind_here_fault command kind))

-- and one with tags
abbrev pub tagged_fault : Command → ℕ → Batch → (row family qualifier ts kind value tags : List ℕ) → Option Why
tagged_fault command time batch row family qualifier ts kind value tags =
    first_of (six_fields_fault time row family qualifier ts kind value) (first_of (sized_fault 7 0 4096 tags)
    (first_of (room_fault batch (tagged_with (cell_of time row family qualifier ts kind value) tags)) (here_fault command)))

-- the fields of a cell, six or seven
abbrev pub fields_fault : Command → ℕ → Batch → List (List ℕ) → Option Why
fields_fault command time batch (row ∷ family ∷ qualifier ∷ ts ∷ kind ∷ value ∷ []) = cell_fault command time batch row family qualifier ts kind value
fields_fault command time batch (row ∷ family ∷ qualifier ∷ ts ∷ kind ∷ value ∷ tags ∷ []) = tagged_fault command time batch row family qualifier ts kind value tags
fields_fault command time batch _ = misplaced

-- a line where a cell is due
abbrev pub due_fault : Command → ℕ → Batch → List (List ℕ) → Option Why
due_fault command time batch (a ∷ fields) = if is a (codes "cell") then fields_fault command time batch fields else undue
due_fault command time batch [] = undue

abbrev pub begins_with : List ℕ → List (List ℕ) → Bool
begins_with name [] = false
begins_with name (a ∷ words) = is a name

-- ---- what a right line says

-- a call of a handler, or a put whose cells follow
pub data Spoken : Type 0 where
  Calls : (handler : ℕ) (call : Call) → Spoken
  Opens : (handler region : ℕ) (sync : Bool) (count : ℕ) → Spoken

abbrev pub spoken_of : List (List ℕ) → Option Spoken
spoken_of (a ∷ h ∷ []) = Some (Calls (number_of h) Roll)
spoken_of (a ∷ h ∷ r ∷ []) = Some (Calls (number_of h) (Flush (number_of r) None))
spoken_of (a ∷ h ∷ r ∷ x ∷ []) = Some (Calls (number_of h) (Flush (number_of r) (Some (bytes_of x))))
spoken_of (a ∷ h ∷ r ∷ x ∷ y ∷ []) =
    if is a (codes "put") then Some (Opens (number_of h) (number_of r) (is x (codes "sync")) (number_of y))
    else (if is a (codes "scan") then Some (Calls (number_of h) (Scan Raw (number_of r) (bytes_of x) (bytes_of y)))
    else Some (Calls (number_of h) (get_call (number_of r) (bytes_of x) (number_of y))))
spoken_of _ = None

abbrev pub cell_of_fields : (time : ℕ) → List (List ℕ) → Option Cell
cell_of_fields time (row ∷ family ∷ qualifier ∷ ts ∷ kind ∷ value ∷ []) = Some (cell_of time row family qualifier ts kind value)
cell_of_fields time (row ∷ family ∷ qualifier ∷ ts ∷ kind ∷ value ∷ tags ∷ []) = Some (tagged_with (cell_of time row family qualifier ts kind value) tags)
cell_of_fields time _ = None

abbrev pub cell_in : (time : ℕ) → List (List ℕ) → Option Cell
cell_in time (a ∷ fields) = cell_of_fields time fields
cell_in time [] = None

abbrev pub table_in : List (List ℕ) → List ℕ
table_in (a ∷ name ∷ words) = bytes_of name
table_in _ = []
