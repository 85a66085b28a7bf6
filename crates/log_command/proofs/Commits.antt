-- What the commits of entries one after the other keep.
use Rattle.std.proofs.Common.{◌≡◌, ◌≤◌, ◌*◌, ℕ, List, [], map, take}
use Rattle.std.specs.List.{AllByRecursion}
use Rattle.log_model.specs.Entry.{Entry, IsEntry, entry_frame}
use Rattle.log_model.specs.Files.{Files, SameBut}
use Rattle.disk_images.specs.Crash.{DiskView, IsImageNow, Throughout}
use Rattle.log_file.specs.Open.{OpenLog, IsOpen, IsStaged}
use Rattle.command_base.specs.LogFiles.{log_name}
use Rattle.log_command.specs.Logged.{IsAlone, HasFirst}

-- the first entries are committed
pub record IsCommitting {D : Type 0} (told : Type 0) (view : D → DiskView) (faults : D → ℕ) (first now : D) (begun log : OpenLog) (frames : List (List ℕ)) (done : ℕ) : Type 0 where
  pub opened : told → (es : List Entry) → frames ≡ map entry_frame es → AllByRecursion IsEntry es → IsOpen log (view now) (take done es)
  pub moments : told → (es : List Entry) → frames ≡ map entry_frame es → AllByRecursion IsEntry es → ((J : Files) → IsImageNow (view first) J → IsAlone J)
      → Throughout (HasFirst es) (4 * done) (view first) (view now)
  pub others : told → SameBut (log_name 1) (view first).files (view now).files
  pub empty : IsStaged log []
  pub named : log.name ≡ log_name 1
  pub same : log.name ≡ begun.name
  pub later : faults first ≤ faults now
