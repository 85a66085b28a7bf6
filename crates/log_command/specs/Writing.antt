-- How far the writing of a log came.
use Rattle.std.specs.Prelude.{ℕ, ◌+◌, ◌<◌, ◌⊎◌, List, [], length, take}
use Rattle.log_model.specs.Entry.{Entry}
use Rattle.log_model.specs.Files.{Files}
use Rattle.disk_images.specs.Crash.{DiskView, IsImageNow}
use Rattle.log_file.specs.Open.{OpenLog, IsOpen}
use Rattle.log_command.specs.Logged.{LogHolds, HasFirst}
use Rattle.log_command.specs.declared.writing.Written.{Written}
use Rattle.log_command.specs.declared.writing.Written.TheVariants.{Nothing, Stopped, Whole}

-- where it stopped after the first entries, each image has these, or one more
abbrev pub IsStopped : Written → DiskView → List Entry → Type 0
IsStopped Nothing disk entries = Unit {0}
IsStopped (Stopped done) disk entries = (done < length entries) × ((J : Files) → IsImageNow disk J → LogHolds J (take done entries) ⊎ LogHolds J (take (done + 1) entries))
IsStopped Whole disk entries = Unit {0}

-- it stopped in one of so many
abbrev pub IsWithin : Written → ℕ → Type 0
IsWithin Nothing count = Unit {0}
IsWithin (Stopped done) count = done < count
IsWithin Whole count = Unit {0}

-- the log has no entry
abbrev pub IsBegun : OpenLog → DiskView → Type 0
IsBegun log disk = IsOpen log disk []

-- what a stop of the writing may leave: an image of before, or the first of the entries
abbrev pub WasOrFirst : DiskView → List Entry → Files → Type 0
WasOrFirst disk entries J = IsImageNow disk J ⊎ HasFirst entries J
