-- What a call on a whole device keeps of what ties it to the chains popped.
use Rattle.std.specs.Prelude.{◌≡◌, ℕ, ◌<◌, ◌≤◌, List, length}
use Rattle.log_model.specs.Files.{Files}
use Rattle.disk_images.specs.Crash.{DiskView, Elapses, Since}
use Rattle.log_trucks.specs.Held.{Held}
use Rattle.log_ledger.specs.History.{History}
use Rattle.log_ledger.specs.Numbers.{IsServed}
use Rattle.log_device.specs.declared.device.Device.{Device}
use Rattle.log_device.specs.Whole.{IsBroken, IsIdle, NoneFell, log_of, numbers_of}
use Rattle.log_halves.specs.Numbers.{AreStoredSynced}
use Rattle.log_halves.specs.Halves.{Stands, Fell, RecoversHeld}

-- the device still has committed all that was popped, or it fell, what held since a start holds since, and the images of former moments stay
pub record KeepsTies {D : Type 0} (old new : Device D) (before after : DiskView) : Type 0 where
  pub stands : (base : Files) (first : List ℕ) (popped : List Held) (h : History) → Stands base first old before popped h → (IsBroken new → ⊥) → (g : History) × Stands base first new after popped g
  pub fell : (base : Files) (first : List ℕ) (popped : List Held) (h : History) → Stands base first old before popped h → ((r : ℕ) → 0 < r → r ≤ length first → IsServed (numbers_of old) r) → IsBroken new
      → (g : History) × Fell base first new after popped g
  pub since : (base : Files) (first : List ℕ) (popped : List Held) (h : History) (start : ℕ) → Stands base first old before popped h → Since start (RecoversHeld base popped) before → Since start (RecoversHeld base popped) after
  pub time : (base : Files) (first : List ℕ) (popped : List Held) (h : History) → Stands base first old before popped h → (n : ℕ) × Elapses n before after

-- all that was drawn is synced, unless the device broke, nothing is staged, what is stored is synced, and no number that is told has fallen
pub record KeepsNumbers {D : Type 0} (old new : Device D) : Type 0 where
  pub idle : IsIdle (log_of new)
  pub served : (r : ℕ) → IsServed (numbers_of old) r → IsServed (numbers_of new) r
  pub drawn : (numbers_of new).drawn ≡ (numbers_of old).drawn
  pub synced : (IsBroken new → ⊥) → (numbers_of new).synced ≡ (numbers_of old).drawn
  pub stored : AreStoredSynced (numbers_of old) → AreStoredSynced (numbers_of new)
  pub later : NoneFell (numbers_of old) (numbers_of new)
