-- A gate: one byte of a file that stands closed until what is behind it is durable. It is open if it is OPEN_GATE.
use Rattle.std.specs.Prelude.{◌≡◌, ◌≢◌, ◌⊎◌, ◌≤◌, ℕ, List, length, ◌∷◌, ◌++◌, Option, Some}
use Rattle.log_model.specs.declared.format.TheConstants.{OPEN_GATE}
use Rattle.log_model.specs.declared.name.Name.{Name}
use Rattle.log_model.specs.Files.{Files, content, Reads}
use Rattle.disk_images.specs.Crash.{DiskView, IsImageNow}
use Rattle.disk_images.specs.OneFile.{IsUnmoved}

-- the text has a closed gate after this front, and anything after that
pub record IsShut (front text : List ℕ) : Type 0 where
  pub gate : ℕ
  pub rest : List ℕ
  pub shut : gate ≢ OPEN_GATE
  pub is : text ≡ front ++ gate ∷ rest

-- in an image the gate after this front is closed, or open with these bytes after it
abbrev pub ClosedOrOpen : List ℕ → List ℕ → Option (List ℕ) → Type 0
ClosedOrOpen front behind image = (text : List ℕ) × (image ≡ Some text) × (IsShut front text ⊎ (text ≡ front ++ OPEN_GATE ∷ behind))

-- in an image the file begins with this
abbrev pub IsFronted : List ℕ → Option (List ℕ) → Type 0
IsFronted front image = (text : List ℕ) × (rest : List ℕ) × (image ≡ Some text) × (text ≡ front ++ rest)

-- the file reads as this text, of which a crash may leave the front alone
pub record IsFilled (disk : DiskView) (name : Name) (front text : List ℕ) : Type 0 where
  pub reads : Reads disk.files name text
  pub fronted : (J : Files) → IsImageNow disk J → IsFronted front (content J name)
  pub unmoved : IsUnmoved disk name
  pub behind : length front ≤ length text
