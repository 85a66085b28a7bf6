-- What the log service's close hands on, counted in entries pushed.
use Rattle.std.specs.Prelude.{◌≡◌, ℕ, ◌+◌, ◌<◌, ◌≤◌, Bool, false, List, length, take, Contains}
use Rattle.cell_model.specs.Order.{VersionKey, Payload}
use Rattle.log_model.specs.declared.name.Name.{Name}
use Rattle.log_model.specs.Entry.{Entry}
use Rattle.log_model.specs.Files.{Files, IsLogFile, IsFit, IsLastLog}
use Rattle.log_model.specs.Recovered.{IsRecovered, IsStored, IsContent, IsLast, put_entries}
use Rattle.region_model.specs.Journal.{Base}
use Rattle.disk_images.specs.Crash.{DiskView, IsImageNow}

-- Of one region: each image has the base with the first of the entries pushed, up to what was synced and stored.
pub record Commits (disk : DiskView) (broken : Bool) (r : ℕ) (base : Base) (pushed : List Entry) (synced stored closed : ℕ) : Type 0 where
  pub images : (J : Files) → IsImageNow disk J
      → (k : ℕ) × IsFit J × (k ≤ length pushed) × IsContent (IsRecovered J r) (put_entries base.content (take k pushed))
      × IsLast J r (base.last + k)
      × (synced ≤ base.last + k) × (stored ≤ base.last + k) × (broken ≡ false → k ≡ length pushed)
  pub keeps_stored : (J : Files) (v : VersionKey) (p : Payload) → IsImageNow disk J → IsRecovered J r v p → v.number ≤ stored → IsStored J r v p
  pub keeps_closed : (J : Files) (name : Name) (entries : List Entry) (e : Entry) → IsImageNow disk J → IsLastLog J name → IsLogFile J name entries
      → Contains entries e → e.region ≡ r → closed < e.number
  pub bound : stored ≤ base.last + length pushed
