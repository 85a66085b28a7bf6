-- A durable file that gets another name, or goes. Until the names are settled a crash may undo it.
use Rattle.std.specs.Prelude.{◌≡◌, ◌≢◌, ◌⊎◌, ℕ, List, Option, Some, None}
use Rattle.log_model.specs.declared.name.Name.{Name}
use Rattle.log_model.specs.Files.{Files, content, IsAbsent, Reads, SameBut}
use Rattle.disk_images.specs.Crash.{DiskView, IsImageNow}

-- An image of old, which has the file under its first name, and the same image with the file under exactly one of its two names.
pub record HasEitherName (from to : Name) (bytes : List ℕ) (old : DiskView) (J : Files) : Type 0 where
  pub base : Files
  pub was : IsImageNow old base
  pub had : Reads base from bytes
  pub free : IsAbsent base to
  pub elsewhere : (m : Name) → m ≢ from → m ≢ to → content J m ≡ content base m
  pub here : (Reads J from bytes × IsAbsent J to) ⊎ (IsAbsent J from × Reads J to bytes)

-- only these two names may read otherwise, only the first is newly gone, and it alone is a new former name, of the second
pub record TouchesBoth (from to : Name) (old new : DiskView) : Type 0 where
  pub others : (m : Name) → m ≢ from → m ≢ to → content new.files m ≡ content old.files m
  pub gone : (m : Name) → new.gone m → old.gone m ⊎ (m ≡ from)
  pub formerly : (n m : Name) → new.formerly n m → old.formerly n m ⊎ ((n ≡ to) × (m ≡ from))

-- in an image the file has all its bytes, or is absent
abbrev pub IsWholeOrGone : List ℕ → Option (List ℕ) → Type 0
IsWholeOrGone bytes image = (image ≡ Some bytes) ⊎ (image ≡ None)

-- only this file may read otherwise, and only its name is newly gone
pub record TakesAway (name : Name) (old new : DiskView) : Type 0 where
  pub others : SameBut name old.files new.files
  pub gone : (m : Name) → new.gone m → old.gone m ⊎ (m ≡ name)
  pub formerly : (n m : Name) → new.formerly n m → old.formerly n m
