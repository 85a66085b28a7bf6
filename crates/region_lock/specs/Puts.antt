-- The steps of a put.
use Rattle.std.specs.Prelude.{◌≡◌, ◌⊎◌, ℕ, suc, ◌-◌, ◌<◌, ◌≤◌, Bool, true, false, List, Option, Some, None, slice_index}
use Rattle.std.specs.declared.result.Result.{Result}
use Rattle.std.specs.declared.result.Result.TheVariants.{Ok, Err}
use Rattle.log_berth.specs.declared.known.Known.{Known}
use Rattle.log_service.specs.declared.tally.Asked.{Asked}
use Rattle.log_service.specs.declared.tally.Watch.{Watch}
use Rattle.log_service.specs.Numbers.{seen_synced}
use Rattle.log_service.specs.Tallies.{found_full, watched, saw_fault, HasWatched, HasAsked}
use Rattle.region_model.specs.Lawful.{number_of}
use Rattle.region_model.specs.Lines.{Line}
use Rattle.region_lock.specs.Answers.{put_answer}
use Rattle.region_lock.specs.declared.job.Job.{Job}
use Rattle.region_lock.specs.declared.answers.PutRefusal.{PutRefusal}
use Rattle.region_lock.specs.declared.answers.PutRefusal.TheVariants as put
use Rattle.region_lock.specs.Jobs.{IsJobBack}
use Rattle.region_lock.specs.Draws.{DrewNumber, SpentNumbers, DrewNone}

-- A number was drawn above what was seen, and its line is the handler's last one; or none was drawn, and why.
abbrev pub IsDrawn : ℕ → Job → List Line → List ℕ → Result ℕ PutRefusal → List Line → List ℕ → Bool → Type 0
IsDrawn seen job own told (Ok n) own_after told_after broken = DrewNumber seen job n own told own_after told_after
IsDrawn seen job own told (Err (put.Memory logged)) own_after told_after broken = DrewNone own told own_after told_after × (logged ≡ None)
IsDrawn seen job own told (Err (put.WriteFault number)) own_after told_after broken =
    DrewNone own told own_after told_after × (number ≡ None) × (broken ≡ true)
IsDrawn seen job own told (Err (put.NumbersSpent last)) own_after told_after broken = SpentNumbers last own told own_after told_after

-- the same of one try; or nothing changed, and the job came back
abbrev pub IsAttempted : ℕ → ℕ → Job → List Line → List ℕ → Result (Result ℕ PutRefusal) Job → List Line → List ℕ → Bool → Type 0
IsAttempted seen r job own told (Ok drawn) own_after told_after broken = IsDrawn seen job own told drawn own_after told_after broken
IsAttempted seen r job own told (Err back) own_after told_after broken = DrewNone own told own_after told_after × IsJobBack r job back

-- What is counted in one try. Once the ring was found full the fault word was looked at, and the job comes back only where that look found it
-- clear; else nothing is counted.
abbrev pub IsWatched : Result (Result ℕ PutRefusal) Job → Watch → Watch → Type 0
IsWatched (Ok (Ok n)) old new = new ≡ old
IsWatched (Ok (Err (put.Memory logged))) old new = new ≡ old
IsWatched (Ok (Err (put.WriteFault number))) old new = new ≡ watched true (found_full old)
IsWatched (Ok (Err (put.NumbersSpent last))) old new = new ≡ old
IsWatched (Err back) old new = new ≡ watched false (found_full old)

-- while a number was drawn: the fault word was looked at after each try that found the ring full
pub record WasWatched (old new : Watch) : Type 0 where
  pub count : ℕ
  pub each : HasWatched count count old new
  -- what the last look found, where it found the word clear before
  pub clear : saw_fault old ≡ false → saw_fault new ≡ false

-- the same, once a number is drawn or refused: the last look found the fault word set exactly where a fault is told
pub record HasDrawn (result : Result ℕ PutRefusal) (old new : Watch) : Type 0 where
  pub count : ℕ
  pub each : HasWatched count count old new
  pub set : (number : Option ℕ) → result ≡ Err (put.WriteFault number) → saw_fault new ≡ true
  pub clear : ((number : Option ℕ) → result ≡ Err (put.WriteFault number) → ⊥) → saw_fault old ≡ false → saw_fault new ≡ false

-- the seat has seen the fault word set, and then loaded the synced word of region r below n: it stands there
pub record IsBelow (k : Known) (r n : ℕ) : Type 0 where
  pub broken : k.broken ≡ true
  pub seen : seen_synced k r < n
  pub stands : slice_index k.last (r - 1) < n

-- logged: durable where that was asked for; not logged: it was asked for, and the log is broken below the number
abbrev pub IsLogged : Bool → Bool → ℕ → ℕ → Known → Type 0
IsLogged sync true r n k = sync ≡ true → n ≤ seen_synced k r
IsLogged sync false r n k = (sync ≡ true) × IsBelow k r n

-- where durability was asked for a sync request was pushed, or the fault was seen; else none was
abbrev pub IsAskedFor : Bool → ℕ → ℕ → Asked → Asked → Bool → Type 0
IsAskedFor true r n old new broken = HasAsked r n old new broken
IsAskedFor false r n old new broken = new ≡ old

-- When a put of region r tells a fault, by what its seat knew of the log before, and knows now.
pub record IsFaultExact (sync : Bool) (r : ℕ) (result : Result ℕ PutRefusal) (old new : Known) : Type 0 where
  -- each answer but out of memory before a number was drawn comes after a load of the fault word in this call
  pub looked : (result ≡ Err (put.Memory None) → ⊥) → old.tally.looks < new.tally.looks
  -- without a number: it was found set
  pub bare : result ≡ Err (put.WriteFault None) → new.broken ≡ true
  -- with one: durability was asked for, and once the fault was seen the synced word was loaded below the number
  pub numbered : (n : ℕ) → result ≡ Err (put.WriteFault (Some n)) → (sync ≡ true) × IsBelow new r n

-- How a put that had its memory watched the fault word until it had drawn a number.
pub record HasLooked (result : Result ℕ PutRefusal) (old new : Watch) : Type 0 where
  -- how often it found the ring full
  pub count : ℕ
  -- it has looked at the fault word once at its start, and once after each of these
  pub each : HasWatched count (suc count) old new
  -- it tells a fault without a number exactly where the last of these looks found the word set
  pub set : result ≡ Err (put.WriteFault None) → saw_fault new ≡ true
  pub clear : (result ≡ Err (put.WriteFault None) → ⊥) → saw_fault new ≡ false

-- the same of any put: one for which there was no memory at its start hasn't looked
abbrev pub WatchesFault : Result ℕ PutRefusal → Watch → Watch → Type 0
WatchesFault result old new = ((result ≡ Err (put.Memory None)) × (new ≡ old)) ⊎ HasLooked result old new

-- What a put of region r asked of the log, by what was counted before and after, and by whether its seat has seen the fault.
pub record AsksLog (sync : Bool) (r : ℕ) (result : Result ℕ PutRefusal) (old new : Asked) (broken : Bool) : Type 0 where
  -- where durability was asked for, a put that drew a number has pushed one sync request of its region up to that number, or has seen the fault
  pub asks : (n : ℕ) → sync ≡ true → number_of (put_answer result) ≡ Some n → HasAsked r n old new broken
  -- else it has pushed none
  pub bare : number_of (put_answer result) ≡ None → new ≡ old
  pub unasked : sync ≡ false → new ≡ old
