-- A worked example: two handlers, three edits of which the last failed, and two scans.
use Rattle.std.proofs.Common.{◌≡◌, ℕ, true, List, [], ◌∷◌, Some, refl, sym, ap, filter, ◌+◌, ◌++◌}
use Rattle.std.specs.FinMap.{empty}
use Rattle.cell_model.specs.Batch.{batch_of}
use Rattle.cell_model.specs.Cell.{Cell}
use Rattle.cell_model.specs.Order.{NumberedCell}
use Rattle.region_model.specs.Journal.{Base, Edit, Outcome, Done, Failed, last_of, visible, is_in_range}
use Rattle.region_model.specs.Calls.{Put, Scan, Raw, PutOk, PutFault, Scanned, Reply}
use Rattle.region_model.specs.Lawful.{IsEditOf}
use Rattle.region_model.specs.OneThread.{Step, Puts, Scans, Run}
use Rattle.region_model.proofs.Rows.{from_empty}
use Rattle.serial_history.proofs.Making.{history_from}

abbrev base : Base
base = record { content = empty; last = 0 }

abbrev cell : Cell
cell = record { row = 114 ∷ []; family = 102 ∷ []; qualifier = 113 ∷ []; ts = 1; kind = 4; value = 97 ∷ []; tags = [] }

abbrev edit : ℕ → ℕ → ℕ → Outcome → Edit
edit n handler call outcome = record { entry = record { region = 1; number = n; time = 1000; batch = batch_of (cell ∷ []) }; caller = record { handler = handler; call = call }; outcome = outcome }

abbrev first : Edit
first = edit 1 2 1 Done

abbrev second : Edit
second = edit 2 1 1 Done

abbrev third : Edit
third = edit 3 2 2 Failed

-- what a scan sees of them
abbrev both : List NumberedCell
both = (2, cell) ∷ (1, cell) ∷ []

-- ---- the replies by handler and call: the first handler's put drew 2 and its scan read at 2, the second's puts drew 1 and 3

abbrev puts_second : Reply
puts_second = record { handler = 1; number = 1; call = Put 1 true (batch_of (cell ∷ [])); answer = PutOk 2 }

abbrev sees_second : Reply
sees_second = record { handler = 1; number = 2; call = Scan Raw 1 [] []; answer = Scanned 2 both }

abbrev puts_first : Reply
puts_first = record { handler = 2; number = 1; call = Put 1 true (batch_of (cell ∷ [])); answer = PutOk 1 }

abbrev faults_third : Reply
faults_third = record { handler = 2; number = 2; call = Put 1 true (batch_of (cell ∷ [])); answer = PutFault (Some 3) }

abbrev sees_third : Reply
sees_third = record { handler = 2; number = 3; call = Scan Raw 1 [] []; answer = Scanned 3 both }

abbrev replies : List Reply
replies = puts_second ∷ sees_second ∷ puts_first ∷ faults_third ∷ sees_third ∷ []

-- ---- the history

abbrev history : List Reply
history = puts_first ∷ puts_second ∷ sees_second ∷ faults_third ∷ sees_third ∷ []

pub comes_out : history_from 1 replies 0 (puts_first ∷ puts_second ∷ faults_third ∷ []) ≡ history
comes_out = refl

seen : both ≡ visible empty (first ∷ second ∷ []) 2 [] []
seen = sym (ap (filter (is_in_range [] [])) (from_empty (first ∷ second ∷ [])))

-- the failed edit is hidden
seen_again : both ≡ visible empty (first ∷ second ∷ third ∷ []) 3 [] []
seen_again = sym (ap (filter (is_in_range [] [])) (from_empty (first ∷ second ∷ [])))

made : (reply : Reply) (e : Edit) → IsEditOf reply e → e.entry.region ≡ 1 → (old : List Edit) → e.entry.number ≡ last_of 0 old + 1 → Step 1 base old reply (old ++ e ∷ [])
made reply e is region old number = Puts e is region number refl

pub one_thread_answers_so : Run 1 base [] history (first ∷ second ∷ third ∷ [])
one_thread_answers_so = (
  first ∷ [],
  made puts_first first record { handler = refl; call = refl; sync = true; put = refl; number = refl; outcome = refl } refl [] refl,
  (
    first ∷ second ∷ [],
    made puts_second second record { handler = refl; call = refl; sync = true; put = refl; number = refl; outcome = refl } refl (first ∷ []) refl,
    (
      first ∷ second ∷ [],
      Scans Raw [] [] refl (ap (Scanned 2) seen) refl,
      (
        first ∷ second ∷ third ∷ [],
        made faults_third third record { handler = refl; call = refl; sync = true; put = refl; number = refl; outcome = refl } refl (first ∷ second ∷ []) refl,
        (
          first ∷ second ∷ third ∷ [],
          Scans Raw [] [] refl (ap (Scanned 3) seen_again) refl,
          refl,
        ),
      ),
    ),
  ),
)

-- ---- and what is none

-- a scan can't stand before the put whose sequence id it read at
step_first : (new : List Edit) → Step 1 base [] sees_second new → ⊥
step_first new (Puts e made region number is) = absurd cc
step_first new (Scans view from to call answer is) = absurd cc

pub not_before_its_put : (new : List Edit) → Run 1 base [] (sees_second ∷ puts_first ∷ puts_second ∷ []) new → ⊥
not_before_its_put new run = step_first run.0 run.1
