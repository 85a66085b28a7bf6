-- Worked examples, which the check computes: gets.
use Rattle.std.proofs.Common.{◌≡◌, ℕ, true, false, [], ◌∷◌, Option, Some, codes, replicate, refl}
use Rattle.std.specs.Fmt.{digits}
use Rattle.cell_model.specs.Cell.{Cell}
use Rattle.region_model.specs.Calls.{Put, Scan, Flush, Roll, Raw, Newest, Scanned, ScanMemory}
use Rattle.script_model.specs.Calls.{Says}
use Rattle.script_model.specs.Fields.{Why, cell_why, number_fault, token_fault, sized_fault, ts_fault, kind_fault, room_fault, mode_fault, here_fault, get_here_fault, one_here_fault, mode_here_fault, kind_here_fault}
use Rattle.script_model.specs.Report.{reply_text, cell_line}
use Rattle.script_model.specs.Script.{script_fault}
use Rattle.script_model.specs.Tables.{get_fault}
use Rattle.script_model.specs.declared.command.Command.TheVariants.{Log, Run, Groups}

abbrev at_line : ℕ → ℕ → ℕ → Option (ℕ × Why)
at_line n cause limit = Some (n, record { cause = cause; limit = limit })

abbrev deleted : Cell
deleted = record { row = codes "r"; family = codes "f"; qualifier = codes "q"; ts = 1; kind = 8; value = []; tags = [] }

-- ---- what a script says

-- a get is a scan of one row, in which deletes mask
get_of_a_row : Says Run (codes "time 5\nregions 2\nhandlers 1\nget 1 2 r%20 10\nscan 1 2 r%20 10\n")
    (record { time = 5; regions = 2; handlers = (Scan (Newest 10) 2 (114 ∷ 32 ∷ []) (114 ∷ 32 ∷ 0 ∷ []) ∷ Scan Raw 2 (114 ∷ 32 ∷ []) (codes "10") ∷ []) ∷ [] })
unfolding script_fault number_fault token_fault sized_fault ts_fault kind_fault room_fault mode_fault here_fault get_here_fault one_here_fault mode_here_fault kind_here_fault
get_of_a_row = record { right = refl; is = refl }

-- the least and the greatest number of versions
versions_in_range : Says Run (codes "time 5\nregions 1\nhandlers 1\nget 1 1 r 1\nget 1 1 r 1000000\n")
    (record { time = 5; regions = 1; handlers = (Scan (Newest 1) 1 (codes "r") (114 ∷ 0 ∷ []) ∷ Scan (Newest 1000000) 1 (codes "r") (114 ∷ 0 ∷ []) ∷ []) ∷ [] })
unfolding script_fault number_fault token_fault sized_fault ts_fault kind_fault room_fault mode_fault here_fault get_here_fault one_here_fault mode_here_fault kind_here_fault
versions_in_range = record { right = refl; is = refl }

-- ---- what is wrong with the line of a get, a field at a time from the left

get_of_no_handler : script_fault Run (codes "time 5\nregions 1\nhandlers 1\nget 2 2 - 0\n") ≡ at_line 4 5 0
unfolding script_fault number_fault token_fault sized_fault ts_fault kind_fault room_fault mode_fault here_fault get_here_fault one_here_fault mode_here_fault kind_here_fault
get_of_no_handler = refl

get_of_no_region : script_fault Run (codes "time 5\nregions 1\nhandlers 1\nget 1 2 - 0\n") ≡ at_line 4 4 0
unfolding script_fault number_fault token_fault sized_fault ts_fault kind_fault room_fault mode_fault here_fault get_here_fault one_here_fault mode_here_fault kind_here_fault
get_of_no_region = refl

get_of_no_token : script_fault Run (codes "time 5\nregions 1\nhandlers 1\nget 1 1 % 0\n") ≡ at_line 4 3 0
unfolding script_fault number_fault token_fault sized_fault ts_fault kind_fault room_fault mode_fault here_fault get_here_fault one_here_fault mode_here_fault kind_here_fault
get_of_no_token = refl

-- a row has 1 to 32,767 bytes
get_of_no_row : script_fault Run (codes "time 5\nregions 1\nhandlers 1\nget 1 1 - 0\n") ≡ at_line 4 8 1
unfolding script_fault number_fault token_fault sized_fault ts_fault kind_fault room_fault mode_fault here_fault get_here_fault one_here_fault mode_here_fault kind_here_fault
get_of_no_row = refl

get_of_a_long_row : get_fault Log 1 1 (codes "1") (codes "1") (replicate 32768 97) (codes "x") ≡ Some (cell_why 1)
unfolding number_fault sized_fault get_here_fault
get_of_a_long_row = refl

get_of_no_number : script_fault Run (codes "time 5\nregions 1\nhandlers 1\nget 1 1 r 1x\n") ≡ at_line 4 2 0
unfolding script_fault number_fault token_fault sized_fault ts_fault kind_fault room_fault mode_fault here_fault get_here_fault one_here_fault mode_here_fault kind_here_fault
get_of_no_number = refl

get_of_no_version : script_fault Run (codes "time 5\nregions 1\nhandlers 1\nget 1 1 r 0\n") ≡ at_line 4 6 0
unfolding script_fault number_fault token_fault sized_fault ts_fault kind_fault room_fault mode_fault here_fault get_here_fault one_here_fault mode_here_fault kind_here_fault
get_of_no_version = refl

get_of_too_many : script_fault Run (codes "time 5\nregions 1\nhandlers 1\nget 1 1 r 1000001\n") ≡ at_line 4 6 0
unfolding script_fault number_fault token_fault sized_fault ts_fault kind_fault room_fault mode_fault here_fault get_here_fault one_here_fault mode_here_fault kind_here_fault
get_of_too_many = refl

get_of_four_words : script_fault Run (codes "time 5\nregions 1\nhandlers 1\nget 1 1 r\n") ≡ at_line 4 1 0
unfolding script_fault number_fault token_fault sized_fault ts_fault kind_fault room_fault mode_fault here_fault get_here_fault one_here_fault mode_here_fault kind_here_fault
get_of_four_words = refl

get_where_a_cell_is_due : script_fault Run (codes "time 5\nregions 1\nhandlers 1\nput 1 1 sync 1\nget 1 1 r 1\n") ≡ at_line 5 6 0
unfolding script_fault number_fault token_fault sized_fault ts_fault kind_fault room_fault mode_fault here_fault get_here_fault one_here_fault mode_here_fault kind_here_fault
get_where_a_cell_is_due = refl

-- `log` takes no get: it is told after what is wrong with its line
get_in_log : script_fault Log (codes "time 5\nregions 1\nhandlers 1\nget 1 1 r 1\n") ≡ at_line 4 9 0
unfolding script_fault number_fault token_fault sized_fault ts_fault kind_fault room_fault mode_fault here_fault get_here_fault one_here_fault mode_here_fault kind_here_fault
get_in_log = refl

get_in_log_of_no_version : script_fault Log (codes "time 5\nregions 1\nhandlers 1\nget 1 1 r 0\n") ≡ at_line 4 6 0
unfolding script_fault number_fault token_fault sized_fault ts_fault kind_fault room_fault mode_fault here_fault get_here_fault one_here_fault mode_here_fault kind_here_fault
get_in_log_of_no_version = refl

-- so is it in a run on several logs, which takes all else: two regions and handlers, a put that does not wait, a scan
get_in_groups : script_fault Groups (codes "time 5\nregions 2\nhandlers 2\nget 2 1 r 1\n") ≡ at_line 4 9 0
unfolding script_fault number_fault token_fault sized_fault ts_fault kind_fault room_fault mode_fault here_fault get_here_fault one_here_fault mode_here_fault kind_here_fault
get_in_groups = refl

get_in_groups_of_no_version : script_fault Groups (codes "time 5\nregions 1\nhandlers 1\nget 1 1 r 0\n") ≡ at_line 4 6 0
unfolding script_fault number_fault token_fault sized_fault ts_fault kind_fault room_fault mode_fault here_fault get_here_fault one_here_fault mode_here_fault kind_here_fault
get_in_groups_of_no_version = refl

groups_without_gets : Says Groups (codes "time 5\nregions 2\nhandlers 2\nput 2 2 async 1\ncell r f q 1 delete -\nscan 1 2 - -\nflush 1 1 f\nroll 2\n")
    (record {
      time = 5;
      regions = 2;
      handlers = (Scan Raw 2 [] [] ∷ Flush 1 (Some (codes "f")) ∷ [])
          ∷ (Put 2 false (record { table = []; cells = deleted ∷ [] }) ∷ Roll ∷ []) ∷ [];
    })
unfolding script_fault number_fault token_fault sized_fault ts_fault kind_fault room_fault mode_fault here_fault get_here_fault one_here_fault mode_here_fault kind_here_fault
groups_without_gets = record { right = refl; is = refl }

-- ---- what is printed

abbrev cell : Cell
cell = record { row = codes "r"; family = codes "f"; qualifier = codes "q"; ts = 6; kind = 4; value = codes "b"; tags = [] }

reply_of_a_get : reply_text (record { handler = 1; call = 4; answer = Scanned 3 ((3, cell) ∷ []); got = true }) ≡ codes "reply 1 4 get 3 1\ncell 3 r f q 6 put b\n"
unfolding reply_text cell_line digits
reply_of_a_get = refl

get_without_memory : reply_text (record { handler = 1; call = 4; answer = ScanMemory; got = true }) ≡ codes "reply 1 4 get memory\n"
unfolding reply_text digits
get_without_memory = refl
