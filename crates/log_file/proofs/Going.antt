-- How far a file is read.
use Rattle.std.proofs.Common.{◌≡◌, ℕ, List, length, take}
use Rattle.log_model.specs.declared.name.Name.{Name}
use Rattle.log_model.specs.Entry.{Entry}
use Rattle.log_model.specs.LogText.{FileKey}
use Rattle.log_model.specs.Files.{Reads}
use Rattle.disk_images.specs.Crash.{DiskView}
use Rattle.entry_frame.specs.Feed.{Feeding, IsFed}
use Rattle.file_base.specs.Looking.{OnlyLooks}

-- so many of the bytes are read, by at most as many calls
pub record Going (told : Type 0) (name : Name) (first now : DiskView) (key : FileKey) (feed : Feeding) (entries : List Entry) (at : ℕ) : Type 0 where
  pub given : List ℕ
  pub count : length given ≡ at
  pub fed : IsFed feed given entries
  pub key_is : feed.key ≡ key
  pub part : told → (c : List ℕ) → Reads first.files name c → given ≡ take at c
  pub looks : told → OnlyLooks at first now
