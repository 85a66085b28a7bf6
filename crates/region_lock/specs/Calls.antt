-- One call of a handler on one region, by what it does to what its pass knows of that region.
use Rattle.std.specs.Prelude.{◌≡◌, ◌≢◌, ℕ, ◌-◌, ◌^◌, ◌<◌, ◌≤◌, Bool, true, List, ◌++◌, Option, Some, None, Contains}
use Rattle.cell_model.specs.Batch.{Batch}
use Rattle.cell_model.specs.Cell.{Cell}
use Rattle.region_model.specs.Journal.{Base, Caller, Done, Edit, last_of, visible}
use Rattle.region_model.specs.Calls.{Answer, PutOk, PutFault, PutSpent, Scanned, FlushOk, FlushNothing, FlushBusy, FlushFault, RollFault}
use Rattle.region_model.specs.Lawful.{number_of, outcome_of, flushed_of, IsPutFault}
use Rattle.server_model.specs.Pass.{Known, IsLaterOf, IsQuiet}
use Rattle.server_model.specs.Steps.{edit_of, drawn, told_last, IsFlushedTo, IsNothingAbove, IsRolled}
use Rattle.log_service.specs.declared.seats.LogSeat.{LogSeat}
use Rattle.log_service.specs.Places.{IsLaterSeat}
use Rattle.log_service.specs.Numbers.{seen_synced, seen_closed}

-- A put. `was` and `is` say whether the seat had seen the fault before, and has now.
pub record PutsAt (base : Base) (time r : ℕ) (sync : Bool) (batch : Batch) (caller : Caller) (answer : Answer)
    (old new : Known) (was is : Bool) : Type 0 where
  pub later : IsLaterOf old new
  pub own : new.own ≡ old.own ++ drawn r time batch caller answer (number_of answer)
  pub spent : new.spent ≡ old.spent ++ told_last answer
  pub above : (n : ℕ) → number_of answer ≡ Some n → last_of base.last old.shown < n
  pub above_own : (n : ℕ) (e : Edit) → number_of answer ≡ Some n → Contains old.own e → e.entry.number < n
  pub fault_sync : (n : ℕ) → answer ≡ PutFault (Some n) → sync ≡ true
  pub seen : (n : ℕ) → answer ≡ PutOk n → n ≤ last_of base.last new.shown
  pub place : (n : ℕ) → answer ≡ PutOk n → Contains new.shown (edit_of r n time batch caller Done)
  pub synced : (n : ℕ) → sync ≡ true → number_of answer ≡ Some n → outcome_of answer ≡ outcome_of (PutOk n) → n ≤ new.synced
  pub fault : IsPutFault answer → is ≡ true
  pub stays : was ≡ true → is ≡ true
  pub stops : was ≡ true → number_of answer ≡ None
  pub limit : (n : ℕ) → answer ≡ PutSpent n → n ≡ 2 ^ 48 - 1

-- A scan of this range of rows.
pub record ScansAt (base : Base) (from to : List ℕ) (answer : Answer) (old new : Known) : Type 0 where
  pub later : IsLaterOf old new
  pub own : IsQuiet old new
  pub cells : (p : ℕ) (cells : List (ℕ × Cell)) → answer ≡ Scanned p cells
      → (p ≡ last_of base.last new.shown) × (cells ≡ visible base.content new.shown p from to)

-- A flush of a family of the region or of all, of the region's flushes.
pub record FlushesAt (base : Base) (flushes : List Caller) (family : Option (List ℕ)) (caller : Caller) (answer : Answer) (old new : Known) (was is : Bool) : Type 0 where
  pub later : IsLaterOf old new
  pub own : IsQuiet old new
  pub above : (n : ℕ) → flushed_of answer ≡ Some n → last_of base.last old.shown ≤ n
  pub above_own : (n : ℕ) (e : Edit) → flushed_of answer ≡ Some n → Contains old.own e → e.entry.number ≤ n
  pub stored : (n : ℕ) → family ≡ None → flushed_of answer ≡ Some n → n ≤ new.stored
  pub busy : (h c : ℕ) → answer ≡ FlushBusy h c → (h ≢ caller.handler) × Contains flushes (record { handler = h; call = c })
  pub fault : answer ≡ FlushFault → is ≡ true
  pub stays : was ≡ true → is ≡ true
  pub flushed : (n : ℕ) → answer ≡ FlushOk n → IsFlushedTo family n old new
  pub nothing : (n : ℕ) → answer ≡ FlushNothing n → IsNothingAbove family n new

-- A roll, by what it does to the seat, where there are n regions.
pub record RollsAt (n : ℕ) (answer : Answer) (old new : LogSeat) : Type 0 where
  pub later : IsLaterSeat old new
  pub closed : (r : ℕ) → 0 < r → r ≤ n → IsRolled answer → seen_synced old.device.knows r ≤ seen_closed n new.device.knows r
  pub fault : answer ≡ RollFault → new.device.knows.broken ≡ true
