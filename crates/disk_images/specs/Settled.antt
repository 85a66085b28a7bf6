-- Calls that change no file, and what a barrier leaves.
use Rattle.std.specs.Prelude.{◌≡◌, ◌≢◌, ℕ, List, Contains}
use Rattle.log_model.specs.declared.name.Name.{Name}
use Rattle.log_model.specs.declared.name.NameKind.TheVariants as kinds
use Rattle.log_model.specs.Files.{Files, content}
use Rattle.disk_images.specs.Crash.{DiskView, IsImageNow, Throughout}

-- At most so many calls that change no file: at each moment each image is one of before.
pub record Watches (by : ℕ) (old new : DiskView) : Type 0 where
  pub files : new.files ≡ old.files
  pub gone : (m : Name) → new.gone m → old.gone m
  pub formerly : (n m : Name) → new.formerly n m → old.formerly n m
  pub moments : Throughout (IsImageNow old) by old new

-- each of these files but old logs is in each image as it reads
abbrev pub AreStanding : DiskView → List Name → Type 0
AreStanding disk names = (m : Name) → Contains names m → m.kind ≢ kinds.Old → (J : Files) → IsImageNow disk J → content J m ≡ content disk.files m

-- After the barrier: but for old logs each image has each file as it reads, and no other. No name is gone.
pub record IsSettled (disk : DiskView) : Type 0 where
  pub stands : (J : Files) (m : Name) → IsImageNow disk J → m.kind ≢ kinds.Old → content J m ≡ content disk.files m
  pub none_gone : (m : Name) → ¬ disk.gone m
  pub none_former : (n m : Name) → ¬ disk.formerly n m
