-- Calls that change nothing.
use Rattle.std.specs.Prelude.{◌≡◌, ℕ}
use Rattle.log_model.specs.declared.name.Name.{Name}
use Rattle.disk_images.specs.Crash.{DiskView, IsImageNow, Throughout}

-- At most so many calls that change no file: at each moment each image is one of before.
pub record OnlyLooks (by : ℕ) (old new : DiskView) : Type 0 where
  pub files : new.files ≡ old.files
  pub gone : (m : Name) → new.gone m → old.gone m
  pub formerly : (n m : Name) → new.formerly n m → old.formerly n m
  pub moments : Throughout (IsImageNow old) by old new
