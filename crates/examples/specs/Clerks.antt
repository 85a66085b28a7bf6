-- What clerks promise together.
use Rattle.std.specs.Prelude.{◌≡◌, ℕ, List, Contains, Some}
use Rattle.disk_images.specs.Crash.{DiskView}
use Rattle.examples.specs.Persons.{IsThereForGood}
use Rattle.examples.specs.declared.clerk.Clerk.{Clerk}

-- Each person whose clerk calls the put acknowledged is there for good.
abbrev pub AreThereForGood : DiskView → List Clerk → Type 0
AreThereForGood disk clerks = (c : Clerk) (n : ℕ) → Contains clerks c → c.acknowledged ≡ Some n → IsThereForGood disk c.row.now c.name.now n
