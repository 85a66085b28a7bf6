-- What the two halves of a call have done: one reads and pushes, the other one pops and ships.
use Rattle.std.specs.Prelude.{◌≡◌, ◌+◌, ◌<◌, ◌^◌, ℕ, Bool, true, false, List, [], ◌∷◌, ◌++◌, length, Err}
use Rattle.crossbeam_queue.specs.Passes.{view}
use Rattle.append_ring.specs.declared.pass.RingKey.{RingKey}
use Rattle.append_ring.specs.Rules.{RingPlace}
use Rattle.log_model.specs.Files.{Files}
use Rattle.disk_images.specs.Calls.{HasCause}
use Rattle.disk_images.specs.Crash.{DiskView}
use Rattle.chronicle_model.specs.Chronicle.{Placed, Position}
use Rattle.log_tail.specs.declared.refusal.TailRefusal.TheVariants.{DiskFault}
use Rattle.log_tail.specs.Reads.{IsRead, OnlyReads, placed_behind}
use Rattle.ship_queue.specs.declared.reading.Reading.{Reading}
use Rattle.ship_queue.specs.declared.sending.Count.{Count}
use Rattle.ship_queue.specs.declared.reading_half.ReadingHalf.{ReadingHalf}
use Rattle.ship_queue.specs.declared.reading_half.Stage.{Stage}
use Rattle.ship_queue.specs.declared.reading_half.Stage.TheVariants as stages
use Rattle.ship_queue.specs.Messages.{Message}
use Rattle.ship_queue.specs.Course.{counted, HasReadOn, IsAtEnd, IsRefusedAt, LeadsTo}
use Rattle.ship_queue.specs.Sent.{HasSent, HasStopped, HasTorn}

-- ---- readings

-- the places of what was read are numbers of their type
abbrev pub FitsItsLog : Reading → Type 0
FitsItsLog r = r.at.entries + length r.entries < 2 ^ 64

-- what a reading gave, with its places
abbrev pub given_by : Reading → List Placed
given_by r = placed_behind r.at.file r.at.entries r.entries

-- what these gave, one after the other
abbrev pub all_given : List Reading → List Placed
all_given [] = []
all_given (r ∷ rs) = given_by r ++ all_given rs

-- ---- the half that reads

-- the reading that waits to be pushed
abbrev pub held_in : Stage → List Reading
held_in stages.Read = []
held_in (stages.Push r) = r ∷ []
held_in stages.AtEnd = []
held_in (stages.Refused e) = []

abbrev pub HoldsWhole : Stage → Type 0
HoldsWhole stages.Read = Unit {0}
HoldsWhole (stages.Push r) = FitsItsLog r
HoldsWhole stages.AtEnd = Unit {0}
HoldsWhole (stages.Refused e) = Unit {0}

-- why it reads no more from the position on, if it doesn't
abbrev pub EndsAt : Files → Position → Stage → Type 0
EndsAt files q stages.Read = Unit {0}
EndsAt files q (stages.Push r) = Unit {0}
EndsAt files q stages.AtEnd = IsAtEnd files q × IsRead files q [] q
EndsAt files q (stages.Refused e) = IsRefusedAt {T = Reading} files q (Err e)

-- it reads no more
abbrev pub HasEnded : Stage → Type 0
HasEnded stages.Read = ⊥
HasEnded (stages.Push r) = ⊥
HasEnded stages.AtEnd = Unit {0}
HasEnded (stages.Refused e) = Unit {0}

-- the key of the ring's one region
abbrev pub IsKeyOf : RingPlace → RingKey Reading → Type 0
IsKeyOf ring key = (key.pass.table_id ≡ ring.id) × (key.region ≡ 1)

-- what was pushed under the key, and what waits to be
abbrev pub read_so_far : RingKey Reading → Stage → List Placed
read_so_far key stage = all_given ((view key.pass).pushed ++ held_in stage)

-- From a position on, over a disk as it then was, a tail has read these.
pub record HasRead {D : Type 0} (told : Type 0) (images : D → DiskView) (faults : D → ℕ) (p : Position) (first : D) (q : Position) (disk : D) (xs : List Placed) (stage : Stage) : Type 0 where
  pub leads : told → LeadsTo (images first).files p q
  pub read : told → HasReadOn (images first).files p q xs
  pub ends : told → EndsAt (images first).files q stage
  pub looks : told → OnlyReads (images first) (images disk)
  pub cause : HasCause (faults first) (faults disk) (stage ≡ stages.Refused DiskFault)

-- whatever it had read, it goes on from there
pub record ReadsOn {D : Type 0} (told : Type 0) (images : D → DiskView) (faults : D → ℕ) (q now : Position) (disk next : D) (old new : ReadingHalf) : Type 0 where
  pub on : (p : Position) (first : D) → HasRead told images faults p first q disk (read_so_far old.key old.stage) old.stage
      → HasRead told images faults p first now next (read_so_far new.key new.stage) new.stage

-- ---- the half that ships

-- a peer was shipped these, and they were counted
pub record AreShipped {P : Type 0} (has : P → List Message → Type 0) (first now : P) (count : Count) (xs : List Placed) : Type 0 where
  pub sent : HasSent has first now 0 count.unrecorded xs
  pub number : count.entries ≡ counted (length xs)

-- it failed somewhere in these
pub record AreCut {P : Type 0} (has : P → List Message → Type 0) (torn : P → List Message → Message → Type 0) (first now : P) (xs : List Placed) : Type 0 where
  pub stopped : HasStopped has first now xs
  pub cut : HasTorn has torn first now 0 xs

-- Of a peer as it was at first, all these were shipped, or it failed somewhere in them.
pub record HasShipped {P : Type 0} (has : P → List Message → Type 0) (torn : P → List Message → Message → Type 0) (same : P → P → Type 0) (faults : P → ℕ) (first now : P) (count : Count) (failed : Bool) (xs : List Placed) : Type 0 where
  pub all : failed ≡ false → AreShipped has first now count xs
  pub part : failed ≡ true → AreCut has torn first now xs
  pub stays : same first now
  pub cause : HasCause (faults first) (faults now) (failed ≡ true)

-- whatever was shipped of what had been popped, so it goes on with what is popped now
pub record ShipsOn {P : Type 0} (has : P → List Message → Type 0) (torn : P → List Message → Message → Type 0) (same : P → P → Type 0) (faults : P → ℕ) (old now : P) (count next : Count) (failed fails : Bool) (before after : List Reading) : Type 0 where
  pub on : (first : P) → HasShipped has torn same faults first old count failed (all_given before) → HasShipped has torn same faults first now next fails (all_given after)
