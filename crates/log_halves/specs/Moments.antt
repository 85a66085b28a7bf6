-- The moments of a disk up to a start, and those since then.
use Rattle.std.specs.Prelude.{ℕ, ◌<◌, ◌≤◌}
use Rattle.log_model.specs.Files.{Files}
use Rattle.log_model.specs.Recovered.{RecoversAlike}
use Rattle.disk_images.specs.Crash.{DiskView, Since}

-- The images of the moments up to the start are those that were.
pub record GoesOnFrom (start : ℕ) (past : ℕ → Files → Type 0) (disk : DiskView) : Type 0 where
  pub begun : start ≤ disk.clock
  pub past_stays : (t : ℕ) (J : Files) → t ≤ start → disk.image t J → past t J
  pub past_is_kept : (t : ℕ) (J : Files) → t ≤ start → past t J → disk.image t J

-- At each moment since the start each region above these recovers as it did in these files.
abbrev pub OthersSince : ℕ → Files → ℕ → DiskView → Type 0
OthersSince start found regions disk = Since start (λ J. (r : ℕ) → regions < r → RecoversAlike found J r) disk
