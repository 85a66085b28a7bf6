-- Of what a service is made.
use Rattle.std.specs.Prelude.{◌≡◌, ℕ, ◌<◌, ◌≤◌, true, List, [], length, get_or, Option}
use Rattle.atomic_table.specs.Seated.{TableId}
use Rattle.append_ring.specs.declared.knows.Knows.{Knows}
use Rattle.append_ring.specs.declared.pass.RingKey.{RingKey}
use Rattle.append_ring.specs.Rules.{knows, base_of}
use Rattle.append_ring.specs.Parts.{AreNew}
use Rattle.log_model.specs.Files.{Files}
use Rattle.disk_images.specs.Crash.{DiskView}
use Rattle.log_ledger.specs.History.{History}
use Rattle.log_ledger.specs.Numbers.{IsServed}
use Rattle.log_device.specs.declared.device.Device.{Device}
use Rattle.log_device.specs.Whole.{IsWhole, IsBroken, IsIdle, log_of, numbers_of}
use Rattle.log_halves.specs.Halves.{BeganWith, HasFewStores}

-- the consumer's pass and the regions' keys of a ring are new, and these are the numbers before the regions' first ones
pub record AreNewParts {T : Type 0} (id : TableId) (lasts : List ℕ) (of : TableId) (seen : Knows T) (passes : List (Option (RingKey T))) : Type 0 where
  pub ring : of ≡ id
  pub none : seen ≡ knows 0 true (length lasts) lasts [] []
  pub all : length passes ≡ length lasts
  pub new : AreNew id lasts 0 passes

-- the same of the ring that is named
pub record AreParts {T : Type 0} (named : TableId) (lasts : List ℕ) (id of : TableId) (seen : Knows T) (passes : List (Option (RingKey T))) : Type 0 where
  pub is : id ≡ named
  pub parts : AreNewParts named lasts of seen passes

-- a device that was started with regions 1 to n, whose numbers are these, and into which nothing was staged since
pub record IsFresh {D : Type 0} (first : List ℕ) (d : Device D) : Type 0 where
  pub unbroken : IsBroken d → ⊥
  pub idle : IsIdle (log_of d)
  pub served : (r : ℕ) → 0 < r → r ≤ length first → IsServed (numbers_of d) r
  pub drawn : (r : ℕ) → 0 < r → r ≤ length first → get_or (numbers_of d).drawn r 0 ≡ base_of first r
  pub synced : (numbers_of d).synced ≡ (numbers_of d).drawn
  pub stored : (numbers_of d).stored ≡ (numbers_of d).drawn

-- its history has nothing in it
pub record BeginsAs {D : Type 0} (found : Files) (first : List ℕ) (d : Device D) (disk : DiskView) (h : History) : Type 0 where
  pub whole : IsWhole d disk h
  pub began : BeganWith found first h
  pub none_durable : h.kept.durable ≡ []
  pub none_staged : h.kept.staged ≡ []
  pub no_logs : h.logs ≡ []
  -- the numbers of the regions' next stores are not far above those found
  pub few : HasFewStores found (numbers_of d)
