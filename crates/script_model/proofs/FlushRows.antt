-- Worked examples, which the check computes: flushes of all families, and of one.
use Rattle.std.proofs.Common.{◌≡◌, ℕ, [], ◌∷◌, Option, Some, None, codes, replicate, refl}
use Rattle.region_model.specs.Calls.{Flush}
use Rattle.script_model.specs.Calls.{Says}
use Rattle.script_model.specs.Fields.{Why, cell_why, number_fault, token_fault, sized_fault, ts_fault, kind_fault, room_fault, mode_fault, here_fault, one_here_fault, mode_here_fault, kind_here_fault}
use Rattle.script_model.specs.Script.{script_fault}
use Rattle.script_model.specs.Tables.{family_fault}
use Rattle.script_model.specs.declared.command.Command.TheVariants.{Log, Run}

abbrev at_line : ℕ → ℕ → ℕ → Option (ℕ × Why)
at_line n cause limit = Some (n, record { cause = cause; limit = limit })

-- ---- what a script says

-- three words flush all families, four words one
flushes : Says Run (codes "time 5\nregions 2\nhandlers 1\nflush 1 2\nflush 1 2 f%20\n")
    (record { time = 5; regions = 2; handlers = (Flush 2 None ∷ Flush 2 (Some (102 ∷ 32 ∷ [])) ∷ []) ∷ [] })
unfolding script_fault number_fault token_fault sized_fault ts_fault kind_fault room_fault mode_fault here_fault one_here_fault mode_here_fault kind_here_fault
flushes = record { right = refl; is = refl }

-- ---- what is wrong with the line of a flush of one family, a field at a time from the left

flush_of_no_handler : script_fault Run (codes "time 5\nregions 1\nhandlers 1\nflush 2 2 %\n") ≡ at_line 4 5 0
unfolding script_fault number_fault token_fault sized_fault ts_fault kind_fault room_fault mode_fault here_fault one_here_fault mode_here_fault kind_here_fault
flush_of_no_handler = refl

flush_of_no_region : script_fault Run (codes "time 5\nregions 1\nhandlers 1\nflush 1 2 %\n") ≡ at_line 4 4 0
unfolding script_fault number_fault token_fault sized_fault ts_fault kind_fault room_fault mode_fault here_fault one_here_fault mode_here_fault kind_here_fault
flush_of_no_region = refl

flush_of_no_token : script_fault Run (codes "time 5\nregions 1\nhandlers 1\nflush 1 1 f%\n") ≡ at_line 4 3 0
unfolding script_fault number_fault token_fault sized_fault ts_fault kind_fault room_fault mode_fault here_fault one_here_fault mode_here_fault kind_here_fault
flush_of_no_token = refl

-- a family has 1 to 127 bytes
flush_of_no_family : script_fault Run (codes "time 5\nregions 1\nhandlers 1\nflush 1 1 -\n") ≡ at_line 4 8 2
unfolding script_fault number_fault token_fault sized_fault ts_fault kind_fault room_fault mode_fault here_fault one_here_fault mode_here_fault kind_here_fault
flush_of_no_family = refl

flush_of_a_long_family : family_fault Log 1 1 (codes "1") (codes "1") (replicate 128 97) ≡ Some (cell_why 2)
unfolding number_fault sized_fault here_fault
flush_of_a_long_family = refl

flush_of_five_words : script_fault Run (codes "time 5\nregions 1\nhandlers 1\nflush 1 1 f g\n") ≡ at_line 4 1 0
unfolding script_fault number_fault token_fault sized_fault ts_fault kind_fault room_fault mode_fault here_fault one_here_fault mode_here_fault kind_here_fault
flush_of_five_words = refl

-- no other call has four words
other_calls_of_four_words : script_fault Run (codes "time 5\nregions 1\nhandlers 1\nscan 1 1 f\n") ≡ at_line 4 1 0
unfolding script_fault number_fault token_fault sized_fault ts_fault kind_fault room_fault mode_fault here_fault one_here_fault mode_here_fault kind_here_fault
other_calls_of_four_words = refl

flush_where_a_cell_is_due : script_fault Run (codes "time 5\nregions 1\nhandlers 1\nput 1 1 sync 1\nflush 1 1 f\n") ≡ at_line 5 6 0
unfolding script_fault number_fault token_fault sized_fault ts_fault kind_fault room_fault mode_fault here_fault one_here_fault mode_here_fault kind_here_fault
flush_where_a_cell_is_due = refl

-- `log` takes no flush: it is told after what is wrong with its line
flush_in_log : script_fault Log (codes "time 5\nregions 1\nhandlers 1\nflush 1 1 f\n") ≡ at_line 4 9 0
unfolding script_fault number_fault token_fault sized_fault ts_fault kind_fault room_fault mode_fault here_fault one_here_fault mode_here_fault kind_here_fault
flush_in_log = refl

flush_in_log_of_no_family : script_fault Log (codes "time 5\nregions 1\nhandlers 1\nflush 1 1 -\n") ≡ at_line 4 8 2
unfolding script_fault number_fault token_fault sized_fault ts_fault kind_fault room_fault mode_fault here_fault one_here_fault mode_here_fault kind_here_fault
flush_in_log_of_no_family = refl
