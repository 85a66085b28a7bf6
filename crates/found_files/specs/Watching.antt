-- Some calls that change no file.
use Rattle.std.specs.Prelude.{ℕ}
use Rattle.disk_images.specs.Crash.{DiskView}
use Rattle.disk_images.specs.Settled.{Watches}

abbrev pub OnlyWatches : DiskView → DiskView → Type 0
OnlyWatches old new = (by : ℕ) × Watches by old new
