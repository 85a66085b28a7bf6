-- Worked examples, which the check computes: the name of a table, and tags.
use Rattle.std.proofs.Common.{◌≡◌, ℕ, ◌+◌, true, false, List, [], ◌∷◌, Option, Some, None, codes, replicate, refl}
use Rattle.std.specs.Fmt.{digits}
use Rattle.cell_model.specs.Batch.{batch_of, body_length}
use Rattle.cell_model.specs.Cell.{Cell}
use Rattle.region_model.specs.Calls.{Put, Roll}
use Rattle.script_model.specs.Calls.{Says}
use Rattle.script_model.specs.Fields.{Why, why_name, why, cell_why, one_more, number_fault, token_fault, sized_fault, ts_fault, kind_fault, room_fault, table_name_fault, mode_fault, here_fault, one_here_fault, mode_here_fault, kind_here_fault}
use Rattle.script_model.specs.Outputs.{entry_text}
use Rattle.script_model.specs.Report.{cell_line}
use Rattle.script_model.specs.Script.{script_fault}
use Rattle.script_model.specs.declared.command.Command.TheVariants.{Log, Run}

abbrev at_line : ℕ → ℕ → ℕ → Option (ℕ × Why)
at_line n cause limit = Some (n, record { cause = cause; limit = limit })

-- a cell of row r, family f, qualifier q, timestamp 1, type put and value v
abbrev tagged : (tags : List ℕ) → Cell
tagged tags = record { row = codes "r"; family = codes "f"; qualifier = codes "q"; ts = 1; kind = 4; value = codes "v"; tags = tags }

-- ---- what a script says

-- a put's batch has the name of the table and the tags
table_and_tags : Says Run (codes "time 1000\nregions 1\nhandlers 1\ntable t\nput 1 1 sync 1\ncell r f q 1 put v ab\n")
    (record { time = 1000; regions = 1; handlers = (Put 1 true (record { table = codes "t"; cells = tagged (codes "ab") ∷ [] }) ∷ []) ∷ [] })
unfolding script_fault number_fault token_fault sized_fault ts_fault kind_fault room_fault table_name_fault mode_fault here_fault one_here_fault mode_here_fault kind_here_fault
table_and_tags = record { right = refl; is = refl }

-- without a line of the table there is no name, and `-` is no tags
tags_of_three : Says Run (codes "time 1000\nregions 1\nhandlers 1\nput 1 1 sync 3\ncell r f q 1 put v -\ncell r f q 1 put v %00\ncell r f q 1 put v\n")
    (record { time = 1000; regions = 1; handlers = (Put 1 true (batch_of (tagged [] ∷ tagged (0 ∷ []) ∷ tagged [] ∷ [])) ∷ []) ∷ [] })
unfolding script_fault number_fault token_fault sized_fault ts_fault kind_fault room_fault table_name_fault mode_fault here_fault one_here_fault mode_here_fault kind_here_fault
tags_of_three = record { right = refl; is = refl }

-- the name is that of each put, whoever makes it, and a token
table_of_all_puts : Says Run (codes "time 1000\nregions 1\nhandlers 2\n# names\n\ntable %2D\nput 2 1 sync 1\ncell r f q 1 put v\nroll 1\nput 1 1 async 1\ncell r f q 1 put v\n")
    (record { time = 1000; regions = 1; handlers = (Roll ∷ Put 1 false (record { table = 45 ∷ []; cells = tagged [] ∷ [] }) ∷ []) ∷ (Put 1 true (record { table = 45 ∷ []; cells = tagged [] ∷ [] }) ∷ []) ∷ [] })
unfolding script_fault number_fault token_fault sized_fault ts_fault kind_fault room_fault table_name_fault mode_fault here_fault one_here_fault mode_here_fault kind_here_fault
table_of_all_puts = record { right = refl; is = refl }

-- the head lines with the name of a table alone
table_alone : Says Run (codes "time 1000\nregions 1\nhandlers 1\ntable t")
    (record { time = 1000; regions = 1; handlers = [] ∷ [] })
unfolding script_fault number_fault token_fault sized_fault ts_fault kind_fault room_fault table_name_fault mode_fault here_fault one_here_fault mode_here_fault kind_here_fault
table_alone = record { right = refl; is = refl }

-- ---- what is wrong with the line of a table

-- a name of no bytes
table_of_no_bytes : script_fault Run (codes "time 1000\nregions 1\nhandlers 1\ntable -\n") ≡ at_line 4 12 0
unfolding script_fault number_fault token_fault sized_fault ts_fault kind_fault room_fault table_name_fault mode_fault here_fault one_here_fault mode_here_fault kind_here_fault
table_of_no_bytes = refl

-- its token is told before its length
table_of_no_token : script_fault Run (codes "time 1000\nregions 1\nhandlers 1\ntable %\n") ≡ at_line 4 3 0
unfolding script_fault number_fault token_fault sized_fault ts_fault kind_fault room_fault table_name_fault mode_fault here_fault one_here_fault mode_here_fault kind_here_fault
table_of_no_token = refl

table_of_no_word : script_fault Run (codes "time 1000\nregions 1\nhandlers 1\ntable\n") ≡ at_line 4 1 0
unfolding script_fault number_fault token_fault sized_fault ts_fault kind_fault room_fault table_name_fault mode_fault here_fault one_here_fault mode_here_fault kind_here_fault
table_of_no_word = refl

table_of_two_words : script_fault Run (codes "time 1000\nregions 1\nhandlers 1\ntable t u\n") ≡ at_line 4 1 0
unfolding script_fault number_fault token_fault sized_fault ts_fault kind_fault room_fault table_name_fault mode_fault here_fault one_here_fault mode_here_fault kind_here_fault
table_of_two_words = refl

-- it stands after the head lines alone, and once
table_in_head : script_fault Run (codes "time 1000\nregions 1\ntable t\n") ≡ at_line 3 1 0
unfolding script_fault number_fault token_fault sized_fault ts_fault kind_fault room_fault table_name_fault mode_fault here_fault one_here_fault mode_here_fault kind_here_fault
table_in_head = refl

table_twice : script_fault Run (codes "time 1000\nregions 1\nhandlers 1\ntable t\ntable t\n") ≡ at_line 5 1 0
unfolding script_fault number_fault token_fault sized_fault ts_fault kind_fault room_fault table_name_fault mode_fault here_fault one_here_fault mode_here_fault kind_here_fault
table_twice = refl

table_behind_a_call : script_fault Run (codes "time 1000\nregions 1\nhandlers 1\nroll 1\ntable t\n") ≡ at_line 5 1 0
unfolding script_fault number_fault token_fault sized_fault ts_fault kind_fault room_fault table_name_fault mode_fault here_fault one_here_fault mode_here_fault kind_here_fault
table_behind_a_call = refl

table_behind_a_put : script_fault Run (codes "time 1000\nregions 1\nhandlers 1\nput 1 1 sync 1\ncell r f q 1 put v\ntable t\n") ≡ at_line 6 1 0
unfolding script_fault number_fault token_fault sized_fault ts_fault kind_fault room_fault table_name_fault mode_fault here_fault one_here_fault mode_here_fault kind_here_fault
table_behind_a_put = refl

-- where a cell is due it is no cell's line
table_where_a_cell_is_due : script_fault Run (codes "time 1000\nregions 1\nhandlers 1\nput 1 1 sync 1\ntable t\n") ≡ at_line 5 6 0
unfolding script_fault number_fault token_fault sized_fault ts_fault kind_fault room_fault table_name_fault mode_fault here_fault one_here_fault mode_here_fault kind_here_fault
table_where_a_cell_is_due = refl

-- a call that fails in its place is told as ever
call_behind_a_table : script_fault Run (codes "time 1000\nregions 1\nhandlers 1\ntable t\nroll 2\n") ≡ at_line 5 5 0
unfolding script_fault number_fault token_fault sized_fault ts_fault kind_fault room_fault table_name_fault mode_fault here_fault one_here_fault mode_here_fault kind_here_fault
call_behind_a_table = refl

-- `log` takes no line of a table: it is told after what is wrong with it
table_in_log : script_fault Log (codes "time 1000\nregions 1\nhandlers 1\ntable t\n") ≡ at_line 4 9 0
unfolding script_fault number_fault token_fault sized_fault ts_fault kind_fault room_fault table_name_fault mode_fault here_fault one_here_fault mode_here_fault kind_here_fault
table_in_log = refl

table_in_log_of_no_bytes : script_fault Log (codes "time 1000\nregions 1\nhandlers 1\ntable -\n") ≡ at_line 4 12 0
unfolding script_fault number_fault token_fault sized_fault ts_fault kind_fault room_fault table_name_fault mode_fault here_fault one_here_fault mode_here_fault kind_here_fault
table_in_log_of_no_bytes = refl

table_in_log_misplaced : script_fault Log (codes "time 1000\nregions 1\nhandlers 1\nput 1 1 sync 1\ncell r f q 1 put v\ntable t\n") ≡ at_line 6 1 0
unfolding script_fault number_fault token_fault sized_fault ts_fault kind_fault room_fault table_name_fault mode_fault here_fault one_here_fault mode_here_fault kind_here_fault
table_in_log_misplaced = refl

-- ---- what is wrong with the tags of a cell

-- their token comes after the value's length
tags_of_no_token : script_fault Run (codes "time 1000\nregions 1\nhandlers 1\nput 1 1 sync 1\ncell r f q 1 put v %4\n") ≡ at_line 5 3 0
unfolding script_fault number_fault token_fault sized_fault ts_fault kind_fault room_fault table_name_fault mode_fault here_fault one_here_fault mode_here_fault kind_here_fault
tags_of_no_token = refl

value_before_tags : script_fault Run (codes "time 1000\nregions 1\nhandlers 1\nput 1 1 sync 1\ncell r f q 1 put % %4\n") ≡ at_line 5 3 0
unfolding script_fault number_fault token_fault sized_fault ts_fault kind_fault room_fault table_name_fault mode_fault here_fault one_here_fault mode_here_fault kind_here_fault
value_before_tags = refl

kind_before_tags : script_fault Run (codes "time 1000\nregions 1\nhandlers 1\nput 1 1 sync 1\ncell r f q 1 puts v %4\n") ≡ at_line 5 8 6
unfolding script_fault number_fault token_fault sized_fault ts_fault kind_fault room_fault table_name_fault mode_fault here_fault one_here_fault mode_here_fault kind_here_fault
kind_before_tags = refl

-- a cell has seven fields at most
eight_fields : script_fault Run (codes "time 1000\nregions 1\nhandlers 1\nput 1 1 sync 1\ncell r f q 1 put v ab c\n") ≡ at_line 5 1 0
unfolding script_fault number_fault token_fault sized_fault ts_fault kind_fault room_fault table_name_fault mode_fault here_fault one_here_fault mode_here_fault kind_here_fault
eight_fields = refl

tagged_cell_undue : script_fault Run (codes "time 1000\nregions 1\nhandlers 1\ncell r f q 1 put v ab\n") ≡ at_line 4 6 0
unfolding script_fault number_fault token_fault sized_fault ts_fault kind_fault room_fault table_name_fault mode_fault here_fault one_here_fault mode_here_fault kind_here_fault
tagged_cell_undue = refl

-- `log` takes no seventh field, also where it has no bytes
tags_in_log : script_fault Log (codes "time 1000\nregions 1\nhandlers 1\nput 1 1 sync 1\ncell r f q 1 put v ab\n") ≡ at_line 5 9 0
unfolding script_fault number_fault token_fault sized_fault ts_fault kind_fault room_fault table_name_fault mode_fault here_fault one_here_fault mode_here_fault kind_here_fault
tags_in_log = refl

no_tags_in_log : script_fault Log (codes "time 1000\nregions 1\nhandlers 1\nput 1 1 sync 1\ncell r f q 1 put v -\n") ≡ at_line 5 9 0
unfolding script_fault number_fault token_fault sized_fault ts_fault kind_fault room_fault table_name_fault mode_fault here_fault one_here_fault mode_here_fault kind_here_fault
no_tags_in_log = refl

wrong_tags_in_log : script_fault Log (codes "time 1000\nregions 1\nhandlers 1\nput 1 1 sync 1\ncell r f q 1 put v %\n") ≡ at_line 5 3 0
unfolding script_fault number_fault token_fault sized_fault ts_fault kind_fault room_fault table_name_fault mode_fault here_fault one_here_fault mode_here_fault kind_here_fault
wrong_tags_in_log = refl

-- 4,097 bytes of tags, and one fewer
tags_too_long : sized_fault 7 0 4096 (replicate 4097 97) ≡ Some (cell_why 7)
unfolding sized_fault
tags_too_long = refl

tags_just_long : sized_fault 7 0 4096 (replicate 4096 97) ≡ None
unfolding sized_fault
tags_just_long = refl

-- with the first tags each earlier cell has two bytes more in the body of the entry, and there is one for the table's length
plain_body : body_length (batch_of (tagged [] ∷ [])) ≡ 24 + 24
plain_body = refl

body_with_tags : body_length (one_more (batch_of (tagged [] ∷ [])) (tagged (codes "ab"))) ≡ 25 + (24 + 2) + (24 + 2 + 2)
body_with_tags = refl

body_of_a_table : body_length (one_more (record { table = codes "t"; cells = [] }) (tagged [])) ≡ 25 + 1 + (24 + 2)
body_of_a_table = refl

-- 256 bytes of a table's name, and one fewer
table_too_long : table_name_fault (replicate 256 97) ≡ Some (why 12)
unfolding table_name_fault
table_too_long = refl

table_just_long : table_name_fault (replicate 255 97) ≡ None
unfolding table_name_fault
table_just_long = refl

-- ---- what is printed

name_of_tags : why_name (cell_why 7) ≡ codes "cell-7"
name_of_tags = refl

name_of_table_length : why_name (why 12) ≡ codes "table-length"
name_of_table_length = refl

-- tags are the last word of a cell's line exactly where there are some
line_with_tags : cell_line (7, tagged (codes "a b")) ≡ codes "cell 7 r f q 1 put v a%20b\n"
unfolding cell_line digits
line_with_tags = refl

line_without_tags : cell_line (7, tagged []) ≡ codes "cell 7 r f q 1 put v\n"
unfolding cell_line digits
line_without_tags = refl

-- the name of a table stands after the line of its entry
entry_of_a_table : entry_text (record { region = 1; number = 1; time = 1000; batch = record { table = codes "t"; cells = tagged (codes "ab") ∷ [] } })
    ≡ codes "entry 1 1 1000 1\ntable t\ncell 1 r f q 1 put v ab\n"
unfolding entry_text cell_line digits
entry_of_a_table = refl

entry_of_no_table : entry_text (record { region = 1; number = 1; time = 1000; batch = batch_of (tagged [] ∷ []) }) ≡ codes "entry 1 1 1000 1\ncell 1 r f q 1 put v\n"
unfolding entry_text cell_line digits
entry_of_no_table = refl
