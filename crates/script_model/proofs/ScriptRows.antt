-- Texts that are scripts, each with exactly what it says.
use Rattle.std.proofs.Common.{ℕ, true, false, List, [], ◌∷◌, None, codes, refl}
use Rattle.cell_model.specs.Batch.{batch_of}
use Rattle.cell_model.specs.Cell.{Cell}
use Rattle.region_model.specs.Calls.{Put, Scan, Raw, Flush, Roll}
use Rattle.script_model.specs.Calls.{Says}
use Rattle.script_model.specs.Fields.{number_fault, token_fault, sized_fault, ts_fault, kind_fault, room_fault, mode_fault, here_fault, one_here_fault, mode_here_fault, kind_here_fault}
use Rattle.script_model.specs.Script.{script_fault}
use Rattle.script_model.specs.declared.command.Command.TheVariants.{Log, Run}

-- a cell of row r, family f, qualifier q
abbrev cell_at : (ts kind : ℕ) (value : List ℕ) → Cell
cell_at ts kind value = record { row = codes "r"; family = codes "f"; qualifier = codes "q"; ts = ts; kind = kind; value = value; tags = [] }

-- the head lines alone
head_alone : Says Log (codes "time 1000\nregions 1\nhandlers 1\n")
    (record { time = 1000; regions = 1; handlers = [] ∷ [] })
unfolding script_fault number_fault token_fault sized_fault ts_fault kind_fault room_fault mode_fault here_fault one_here_fault mode_here_fault kind_here_fault
head_alone = record { right = refl; is = refl }

-- one put, for `log`
one_put : Says Log (codes "time 1000\nregions 1\nhandlers 1\nput 1 1 sync 1\ncell r f q 1 put v\n")
    (record { time = 1000; regions = 1; handlers = (Put 1 true (batch_of (cell_at 1 4 (codes "v") ∷ [])) ∷ []) ∷ [] })
unfolding script_fault number_fault token_fault sized_fault ts_fault kind_fault room_fault mode_fault here_fault one_here_fault mode_here_fault kind_here_fault
one_put = record { right = refl; is = refl }

-- `now` and 2 ^ 63 - 1 are the time of the script
times_of_cells : Says Run (codes "time 1000\nregions 1\nhandlers 1\nput 1 1 async 3\ncell r f q now put v\ncell r f q 9223372036854775807 put v\ncell r f q 9223372036854775806 put v\n")
    (record { time = 1000; regions = 1; handlers = (Put 1 false (batch_of (cell_at 1000 4 (codes "v") ∷ cell_at 1000 4 (codes "v") ∷ cell_at 9223372036854775806 4 (codes "v") ∷ [])) ∷ []) ∷ [] })
unfolding script_fault number_fault token_fault sized_fault ts_fault kind_fault room_fault mode_fault here_fault one_here_fault mode_here_fault kind_here_fault
times_of_cells = record { right = refl; is = refl }

-- each type of cell
types_of_cells : Says Run (codes "time 1000\nregions 1\nhandlers 1\nput 1 1 sync 5\ncell r f q 1 put -\ncell r f q 2 delete -\ncell r f q 3 delete-family-version -\ncell r f q 4 delete-column -\ncell r f q 5 delete-family -\n")
    (record { time = 1000; regions = 1; handlers = (Put 1 true (batch_of (cell_at 1 4 [] ∷ cell_at 2 8 [] ∷ cell_at 3 10 [] ∷ cell_at 4 12 [] ∷ cell_at 5 14 [] ∷ [])) ∷ []) ∷ [] })
unfolding script_fault number_fault token_fault sized_fault ts_fault kind_fault room_fault mode_fault here_fault one_here_fault mode_here_fault kind_here_fault
types_of_cells = record { right = refl; is = refl }

-- a dash is no bytes, an escaped one a byte, and the digits are of either case
tokens : Says Run (codes "time 1000\nregions 1\nhandlers 1\nscan 1 1 - %2D\nscan 1 1 a%4ab k%20%0a\n")
    (record { time = 1000; regions = 1; handlers = (Scan Raw 1 [] (45 ∷ []) ∷ Scan Raw 1 (97 ∷ 74 ∷ 98 ∷ []) (107 ∷ 32 ∷ 10 ∷ []) ∷ []) ∷ [] })
unfolding script_fault number_fault token_fault sized_fault ts_fault kind_fault room_fault mode_fault here_fault one_here_fault mode_here_fault kind_here_fault
tokens = record { right = refl; is = refl }

-- the calls of two handlers stand apart, each in its order
two_handlers : Says Run (codes "time 5\nregions 2\nhandlers 2\nroll 2\nflush 1 2\nscan 2 1 - -\nflush 1 1\n")
    (record { time = 5; regions = 2; handlers = (Flush 2 None ∷ Flush 1 None ∷ []) ∷ (Roll ∷ Scan Raw 1 [] [] ∷ []) ∷ [] })
unfolding script_fault number_fault token_fault sized_fault ts_fault kind_fault room_fault mode_fault here_fault one_here_fault mode_here_fault kind_here_fault
two_handlers = record { right = refl; is = refl }

-- comments, empty lines and lines of spaces say nothing, also where a cell is due
lines_skipped : Says Run (codes "# a\ntime 5\n\nregions 1\n  \nhandlers 1\nput 1 1 sync 1\n#\ncell r f q 1 put v\n# end")
    (record { time = 5; regions = 1; handlers = (Put 1 true (batch_of (cell_at 1 4 (codes "v") ∷ [])) ∷ []) ∷ [] })
unfolding script_fault number_fault token_fault sized_fault ts_fault kind_fault room_fault mode_fault here_fault one_here_fault mode_here_fault kind_here_fault
lines_skipped = record { right = refl; is = refl }

-- the last line may lack its line feed
last_line : Says Run (codes "time 1000\nregions 1\nhandlers 1\nroll 1")
    (record { time = 1000; regions = 1; handlers = (Roll ∷ []) ∷ [] })
unfolding script_fault number_fault token_fault sized_fault ts_fault kind_fault room_fault mode_fault here_fault one_here_fault mode_here_fault kind_here_fault
last_line = record { right = refl; is = refl }

-- more spaces than one, leading zeros
spaces_and_zeros : Says Run (codes "time  007\n regions 01\nhandlers 1 \n flush  01   001 \n")
    (record { time = 7; regions = 1; handlers = (Flush 1 None ∷ []) ∷ [] })
unfolding script_fault number_fault token_fault sized_fault ts_fault kind_fault room_fault mode_fault here_fault one_here_fault mode_here_fault kind_here_fault
spaces_and_zeros = record { right = refl; is = refl }

-- the greatest head lines
greatest_head : Says Run (codes "time 9223372036854775806\nregions 64\nhandlers 16\nflush 16 64\n")
    (record { time = 9223372036854775806; regions = 64; handlers = [] ∷ [] ∷ [] ∷ [] ∷ [] ∷ [] ∷ [] ∷ [] ∷ [] ∷ [] ∷ [] ∷ [] ∷ [] ∷ [] ∷ [] ∷ (Flush 64 None ∷ []) ∷ [] })
unfolding script_fault number_fault token_fault sized_fault ts_fault kind_fault room_fault mode_fault here_fault one_here_fault mode_here_fault kind_here_fault
greatest_head = record { right = refl; is = refl }

-- two puts of one handler
two_puts : Says Run (codes "time 1000\nregions 1\nhandlers 1\nput 1 1 sync 1\ncell r f q 1 put v\nput 1 1 async 2\ncell r f q 2 put w\ncell r f q 3 put x\n")
    (record { time = 1000; regions = 1; handlers = (Put 1 true (batch_of (cell_at 1 4 (codes "v") ∷ [])) ∷ Put 1 false (batch_of (cell_at 2 4 (codes "w") ∷ cell_at 3 4 (codes "x") ∷ [])) ∷ []) ∷ [] })
unfolding script_fault number_fault token_fault sized_fault ts_fault kind_fault room_fault mode_fault here_fault one_here_fault mode_here_fault kind_here_fault
two_puts = record { right = refl; is = refl }

-- a put for each of two regions by two handlers, their cells in one order
two_regions : Says Run (codes "time 1\nregions 2\nhandlers 2\nput 2 1 sync 1\ncell r f q 1 put v\nput 1 2 sync 1\ncell r f q 2 put w\n")
    (record { time = 1; regions = 2; handlers = (Put 2 true (batch_of (cell_at 2 4 (codes "w") ∷ [])) ∷ []) ∷ (Put 1 true (batch_of (cell_at 1 4 (codes "v") ∷ [])) ∷ []) ∷ [] })
unfolding script_fault number_fault token_fault sized_fault ts_fault kind_fault room_fault mode_fault here_fault one_here_fault mode_here_fault kind_here_fault
two_regions = record { right = refl; is = refl }
