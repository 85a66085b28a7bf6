-- The checks of a put, of a table's name, of a cell, and of a cell with tags in one list each: the order from the left, with `entry-length` before `not-here`.
use Rattle.std.proofs.Common.{◌≡◌, ℕ, ◌^◌, Bool, true, false, ◌&&◌, ◌||◌, ◌==◌, not, List, [], ◌∷◌, ◌++◌, length, refl, arith, nat_lt, nat_le, codes}
use Rattle.std.proofs.lemmas.Bool.{le-ltb}
use Rattle.cell_model.specs.Batch.{Batch, body_length}
use Rattle.cell_model.specs.Cell.{is_kind}
use Rattle.script_model.specs.Text.{is_number, number_of}
use Rattle.script_model.specs.Fields.{Why, why, cell_why, first_why, first_of, is, has_no_token, bytes_of, is_out, code_of, ts_of, cell_of, tagged_with, one_more, is_log, number_fault, sized_fault, ts_fault, kind_fault, room_fault, table_name_fault, mode_fault, here_fault, mode_here_fault, kind_here_fault}
use Rattle.script_model.specs.declared.command.Command.{Command}
use Rattle.script_model.specs.Tables.{put_fault, table_fault, cell_fault, tagged_fault}

-- two tables, one after the other
pub joined : (xs ys : List (Bool × Why)) → first_of (first_why xs) (first_why ys) ≡ first_why (xs ++ ys)
joined [] ys = refl
joined (x ∷ xs) ys = by x.0 refl (joined xs ys)
  where
    by : (t : Bool) → x.0 ≡ t → first_of (first_why xs) (first_why ys) ≡ first_why (xs ++ ys) → first_of (first_why (x ∷ xs)) (first_why ys) ≡ first_why ((x ∷ xs) ++ ys)
    by true e rest = rw e refl
    by false e rest = rw e rest

abbrev pub put_checks : (command : Command) (handlers regions : ℕ) (h r mode count : List ℕ) → List (Bool × Why)
put_checks command handlers regions h r mode count =
    (not (is_number h), why 2) ∷ (is_out 1 handlers (number_of h), why 5)
    ∷ (not (is_number r), why 2) ∷ (is_out 1 regions (number_of r), why 4)
    ∷ (not (is mode (codes "sync") || is mode (codes "async")), why 1)
    ∷ (not (is_number count), why 2) ∷ (is_out 1 1024 (number_of count), why 6)
    ∷ (is_log command && not (is mode (codes "sync")), why 9)
    ∷ []

abbrev pub table_checks : (command : Command) (name : List ℕ) → List (Bool × Why)
table_checks command name = (has_no_token name, why 3) ∷ (is_out 1 255 (length (bytes_of name)), why 12) ∷ (is_log command, why 9) ∷ []

-- the six fields that each cell has
abbrev pub field_checks : (time : ℕ) (row family qualifier ts kind value : List ℕ) → List (Bool × Why)
field_checks time row family qualifier ts kind value =
    (has_no_token row, why 3) ∷ (is_out 1 32767 (length (bytes_of row)), cell_why 1)
    ∷ (has_no_token family, why 3) ∷ (is_out 1 127 (length (bytes_of family)), cell_why 2)
    ∷ (has_no_token qualifier, why 3) ∷ (nat_lt 32767 (length (bytes_of qualifier)), cell_why 3)
    ∷ (not (is ts (codes "now") || is_number ts), why 2) ∷ (nat_le (2 ^ 63) (ts_of time ts), cell_why 5)
    ∷ (not (is_kind (code_of kind)), cell_why 6)
    ∷ (has_no_token value, why 3) ∷ (nat_lt 65536 (length (bytes_of value)), cell_why 4)
    ∷ []

abbrev pub cell_checks : (command : Command) (time : ℕ) (batch : Batch) (row family qualifier ts kind value : List ℕ) → List (Bool × Why)
cell_checks command time batch row family qualifier ts kind value =
    field_checks time row family qualifier ts kind value
    ++ (nat_lt 1048576 (body_length (one_more batch (cell_of time row family qualifier ts kind value))), why 10)
    ∷ (is_log command && not (code_of kind == 4), why 9)
    ∷ []

abbrev pub tagged_checks : (command : Command) (time : ℕ) (batch : Batch) (row family qualifier ts kind value tags : List ℕ) → List (Bool × Why)
tagged_checks command time batch row family qualifier ts kind value tags =
    field_checks time row family qualifier ts kind value
    ++ (has_no_token tags, why 3) ∷ (nat_lt 4096 (length (bytes_of tags)), cell_why 7)
    ∷ (nat_lt 1048576 (body_length (one_more batch (tagged_with (cell_of time row family qualifier ts kind value) tags))), why 10)
    ∷ (is_log command, why 9)
    ∷ []

pub put_in_order : (command : Command) (handlers regions : ℕ) (h r mode count : List ℕ)
    → put_fault command handlers regions h r mode count ≡ first_why (put_checks command handlers regions h r mode count)
unfolding number_fault mode_fault mode_here_fault
put_in_order command handlers regions h r mode count = simp joined refl

pub table_in_order : (command : Command) (first name : List ℕ) → table_fault command (first ∷ name ∷ []) ≡ first_why (table_checks command name)
unfolding table_name_fault here_fault
table_in_order command first name = simp joined refl

pub cell_in_order : (command : Command) (time : ℕ) (batch : Batch) (row family qualifier ts kind value : List ℕ)
    → cell_fault command time batch row family qualifier ts kind value ≡ first_why (cell_checks command time batch row family qualifier ts kind value)
unfolding sized_fault ts_fault kind_fault room_fault kind_here_fault
cell_in_order command time batch row family qualifier ts kind value =
    simp joined (rw (le-ltb (length (bytes_of qualifier)) 0 (omega arith), le-ltb (length (bytes_of value)) 0 (omega arith)) refl)

pub tagged_in_order : (command : Command) (time : ℕ) (batch : Batch) (row family qualifier ts kind value tags : List ℕ)
    → tagged_fault command time batch row family qualifier ts kind value tags ≡ first_why (tagged_checks command time batch row family qualifier ts kind value tags)
unfolding sized_fault ts_fault kind_fault room_fault here_fault
tagged_in_order command time batch row family qualifier ts kind value tags =
    simp joined (rw (le-ltb (length (bytes_of qualifier)) 0 (omega arith), le-ltb (length (bytes_of value)) 0 (omega arith), le-ltb (length (bytes_of tags)) 0 (omega arith)) refl)
