-- Replies and journals that are not lawful.
use Rattle.std.proofs.Common.{◌≡◌, ℕ, ◌<◌, ◌≤◌, true, false, [], ◌∷◌, Some, None, refl, arith}
use Rattle.std.specs.FinMap.{empty}
use Rattle.cell_model.specs.Batch.{batch_of}
use Rattle.cell_model.specs.Cell.{Cell}
use Rattle.region_model.specs.Journal.{Base, Edit, Outcome, Done, Failed, IsJournal, is_in_range}
use Rattle.region_model.specs.Calls.{Put, Scan, Raw, viewed, Flush, PutOk, PutFault, PutSpent, Scanned, FlushOk, FlushBusy, Reply}
use Rattle.region_model.specs.Lawful.{IsLawful}

abbrev base : Base
base = record { content = empty; last = 0 }

abbrev cell : Cell
cell = record { row = 114 ∷ []; family = 102 ∷ []; qualifier = 113 ∷ []; ts = 1; kind = 4; value = 97 ∷ []; tags = [] }

-- the edit numbered n of a call of handler 1
abbrev edit : ℕ → ℕ → Outcome → Edit
edit n call outcome = record { entry = record { region = 1; number = n; time = 1000; batch = batch_of (cell ∷ []) }; caller = record { handler = 1; call = call }; outcome = outcome }

abbrev puts_ok : ℕ → ℕ → Reply
puts_ok call n = record { handler = 1; number = call; call = Put 1 true (batch_of (cell ∷ [])); answer = PutOk n }

abbrev scans_at : ℕ → ℕ → Reply
scans_at call p = record { handler = 1; number = call; call = Scan Raw 1 [] []; answer = Scanned p [] }

some_none : (n : ℕ) → Some n ≡ None → ⊥
some_none n e = absurd cc

-- a put has a number that an earlier scan of its handler had seen
pub seen_before : IsLawful 1 base (edit 1 2 Done ∷ []) (scans_at 1 1 ∷ puts_ok 2 1 ∷ []) → ⊥
seen_before law = let p : 1 < 1 = (law.places 0 1 (puts_ok 2 1) (omega arith) (omega arith) refl refl refl 1 1 refl).1 refl in absurd (omega arith)

-- a scan is older than its handler's own put
pub older_than_own : IsLawful 1 base (edit 1 1 Done ∷ []) (puts_ok 1 1 ∷ scans_at 2 0 ∷ []) → ⊥
older_than_own law = let p : 1 ≤ 0 = (law.places 0 1 (puts_ok 1 1) (omega arith) (omega arith) refl refl refl 1 0 refl).0 refl in absurd (omega arith)

abbrev flushes_to : ℕ → ℕ → Reply
flushes_to call n = record { handler = 1; number = call; call = Flush 1 None; answer = FlushOk n }

-- a flush is below its handler's own put
pub flushed_too_little : IsLawful 1 base (edit 1 1 Done ∷ []) (puts_ok 1 1 ∷ flushes_to 2 0 ∷ []) → ⊥
flushed_too_little law = let p : 1 ≤ 0 = (law.places 0 1 (puts_ok 1 1) (omega arith) (omega arith) refl refl refl 1 0 refl).2 refl in absurd (omega arith)

-- a put draws a number after a fault of its handler
abbrev faults : Reply
faults = record { handler = 1; number = 1; call = Put 1 true (batch_of (cell ∷ [])); answer = PutFault (Some 1) }

pub drawn_behind_a_fault : IsLawful 1 base (edit 1 1 Failed ∷ edit 2 2 Done ∷ []) (faults ∷ puts_ok 2 2 ∷ []) → ⊥
drawn_behind_a_fault law = some_none 2 (law.faults 0 1 faults (omega arith) (omega arith) refl tt)

-- a scan is past the journal's end
pub past_the_end : IsLawful 1 base [] (scans_at 1 1 ∷ []) → ⊥
past_the_end law = let p : 1 ≤ 0 = (law.scans (scans_at 1 1) Raw [] [] 1 [] (0, omega arith, refl) refl refl).1 in absurd (omega arith)

-- a busy flush names its own handler
abbrev busy_itself : Reply
busy_itself = record { handler = 1; number = 1; call = Flush 1 None; answer = FlushBusy 1 1 }

pub busy_by_itself : IsLawful 1 base [] (busy_itself ∷ []) → ⊥
busy_by_itself law = (law.busy busy_itself 1 1 (0, omega arith, refl) refl refl).0 refl

-- numbers are spent too early
abbrev spent_early : Reply
spent_early = record { handler = 1; number = 1; call = Put 1 true (batch_of (cell ∷ [])); answer = PutSpent 0 }

pub spent_too_early : IsLawful 1 base [] (spent_early ∷ []) → ⊥
spent_too_early law = let p = (law.spent spent_early 0 (0, omega arith, refl) refl refl).0 in absurd (omega (arith, p))

-- two edits of one call
pub one_call_twice : IsJournal 1 base (edit 1 1 Done ∷ edit 2 1 Done ∷ []) → ⊥
one_call_twice j = let p : 1 < 1 = j.callers 0 1 (edit 1 1 Done) (omega arith) (omega arith) refl in absurd (omega arith)

-- an edit's number isn't the one above the last
pub number_left_out : IsJournal 1 base (edit 2 1 Done ∷ []) → ⊥
number_left_out j = let n : 2 ≡ 1 = j.numbers.0 in absurd (omega (arith, n))

-- a range's end is outside it, and its start inside
pub end_is_outside : is_in_range [] (114 ∷ []) (1, cell) ≡ false
end_is_outside = refl

pub start_is_inside : is_in_range (114 ∷ []) [] (1, cell) ≡ true
start_is_inside = refl
