-- A call that works on one file.
use Rattle.std.specs.Prelude.{◌≡◌, ◌⊎◌, ℕ, ◌≤◌, List, length, Option, Some, None}
use Rattle.log_model.specs.declared.name.Name.{Name}
use Rattle.log_model.specs.Files.{Files, content, Reads, SameBut}
use Rattle.disk_images.specs.Crash.{DiskView, IsImageNow, IsDurable, TornFile}

-- only this file may read otherwise, no name is newly gone, and no file has a new former name
pub record Touches (name : Name) (old new : DiskView) : Type 0 where
  pub others : SameBut name old.files new.files
  pub gone : (m : Name) → new.gone m → old.gone m
  pub formerly : (n m : Name) → new.formerly n m → old.formerly n m

-- the file may stand under no other name
abbrev pub IsUnmoved : DiskView → Name → Type 0
IsUnmoved disk name = (m : Name) → ¬ disk.formerly name m

-- the file reads as these bytes, and every crash leaves them
pub record IsDurableFile (disk : DiskView) (name : Name) (bytes : List ℕ) : Type 0 where
  pub reads : Reads disk.files name bytes
  pub durable : IsDurable disk name bytes
  pub unmoved : IsUnmoved disk name

-- an image in which only one file differs from an image of old, by a torn write
pub record TornAt (name : Name) (at n : ℕ) (old : DiskView) (J : Files) : Type 0 where
  pub base : Files
  pub was : IsImageNow old base
  pub elsewhere : SameBut name base J
  pub here : TornFile at n (content base name) (content J name)

-- in an image the file is absent, or has at most n bytes
abbrev pub IsShort : ℕ → Option (List ℕ) → Type 0
IsShort n image = (image ≡ None) ⊎ ((text : List ℕ) × (image ≡ Some text) × (length text ≤ n))
