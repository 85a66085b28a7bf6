-- Persons in region 1, and what it is for one to be there for good.
use Rattle.std.specs.Prelude.{◌≡◌, ℕ, ◌≤◌, List, [], ◌∷◌, Contains, codes}
use Rattle.cell_model.specs.Cell.{Cell}
use Rattle.cell_model.specs.Order.{version_of, payload_of}
use Rattle.log_model.specs.Files.{Files}
use Rattle.log_model.specs.Recovered.{IsRecovered}
use Rattle.disk_images.specs.Crash.{DiskView, IsImageNow}
use Rattle.region_model.specs.Journal.{Edit}
use Rattle.server_model.specs.Pass.{Pass}

-- the cell that says a person's name
abbrev pub person : (row name : List ℕ) → Cell
person row name = record { row = row; family = codes "info"; qualifier = codes "name"; ts = 1700000000000; kind = 4; value = name; tags = [] }

-- A handler's pass knows that this person is its own edit of this sequence id, and that it is synced.
pub record KnowsPerson (row name : List ℕ) (number : ℕ) (p : Pass) : Type 0 where
  pub edit : Edit
  pub own : Contains (p.known 1).own edit
  pub cells : edit.entry.batch.cells ≡ person row name ∷ []
  pub number_is : edit.entry.number ≡ number
  pub synced : number ≤ (p.known 1).synced

-- Whatever a crash leaves of the disk, it is opened with this person.
abbrev pub IsThereForGood : DiskView → (row name : List ℕ) (number : ℕ) → Type 0
IsThereForGood disk row name number = (J : Files) → IsImageNow disk J
    → ∥ IsRecovered J 1 (version_of (number, person row name)) (payload_of (person row name)) ∥₁
