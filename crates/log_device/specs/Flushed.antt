-- What a flush finds to flush, and the store that it writes.
use Rattle.std.specs.Prelude.{◌≡◌, ◌≤◌, ℕ, List, Contains, Option}
use Rattle.log_model.specs.Entry.{Entry}
use Rattle.log_model.specs.Recovered.{HasFamily, IsFor}
use Rattle.cell_model.specs.declared.form.Form.TheVariants.{Tagged}
use Rattle.log_model.specs.StoreText.{Store, store_text}
use Rattle.disk_images.specs.Crash.{DiskView}
use Rattle.disk_images.specs.OneFile.{IsDurableFile}
use Rattle.recovery_laws.specs.Kept.{Kept}
use Rattle.log_ledger.specs.History.{family_in}
use Rattle.log_device.specs.Keeps.{store_name}

-- no entry of the region has a cell of this family, or of any where none is given, above what is flushed of the cell's family
abbrev pub NoneKept : Kept → ℕ → Option (List ℕ) → Type 0
NoneKept k r family = (e : Entry) (f : List ℕ) → Contains k.durable e → e.region ≡ r → HasFamily e f → IsFor (family_in family) f → e.number ≤ k.flushed r f

-- the region's store file of this number is durable, is of this family, or of all where it is empty, replaces none, and covers
-- these sequence ids
pub record HasStore (disk : DiskView) (r : ℕ) (family : List ℕ) (number first last : ℕ) : Type 0 where
  pub store : Store
  pub region : store.region ≡ r
  pub scope : store.scope ≡ 0
  pub of : store.family ≡ family
  pub from : store.from ≡ first
  pub to : store.to ≡ last
  pub file : IsDurableFile disk (store_name r number) (store_text Tagged store)
