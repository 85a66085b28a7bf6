-- What a crash may leave while a store is opened.
use Rattle.std.specs.Prelude.{◌⊎◌, ℕ}
use Rattle.log_model.specs.Files.{Files}
use Rattle.disk_images.specs.Crash.{DiskView, IsImageNow, Throughout}
use Rattle.recovery_laws.specs.Alike.{AllAlike}

-- at each moment of some calls each image has P
abbrev pub During : (Files → Type 0) → DiskView → DiskView → Type 0
During P old new = (by : ℕ) × Throughout P by old new

-- an image of the first moment, or files that are fit and recover alike for every region
abbrev pub WasOrAlike : DiskView → Files → Type 0
WasOrAlike disk J = IsImageNow disk J ⊎ AllAlike disk.files J
