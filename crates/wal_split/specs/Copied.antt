-- Copies of logged entries that go into an edits file.
use Rattle.std.specs.Prelude.{◌≡◌, List, ◌++◌}
use Rattle.log_model.specs.Entry.{Entry}
use Rattle.disk_images.specs.Crash.{DiskView}
use Rattle.log_file.specs.Open.{OpenLog, IsOpen, IsStaged}

-- these entries are in the file, the first ones committed and the others staged
pub record AreIn (log : OpenLog) (disk : DiskView) (entries : List Entry) : Type 0 where
  pub done : List Entry
  pub batch : List Entry
  pub open_log : IsOpen log disk done
  pub staged : IsStaged log batch
  pub all : done ++ batch ≡ entries
