-- What each call of a store file that is written does to the disk and its crash images.
use Rattle.std.specs.Prelude.{List, [], ◌∷◌, ◌++◌, Result, IfOk, OnOk}
use Rattle.cell_model.specs.declared.form.Form.TheVariants.{Tagged}
use Rattle.cell_model.specs.Order.{NumberedCell}
use Rattle.log_model.specs.declared.name.Name.{Name}
use Rattle.log_model.specs.StoreText.{store_text}
use Rattle.disk_images.specs.Crash.{DiskView, Throughout, OnlyAt}
use Rattle.disk_images.specs.OneFile.{Touches, IsDurableFile}
use Rattle.recovery_laws.specs.Kept.{IsNotThere}
use Rattle.store_file.specs.Open.{OpenStore, IsFilling, store_of}
use Rattle.store_file.specs.Whole.{IsWholeOrNot}

-- a file of this name is begun
pub record Begins {E : Type 0} (name : Name) (result : Result OpenStore E) (old new : DiskView) : Type 0 where
  -- after Ok it stands after a durable closed gate, and has no cell
  pub filling : IfOk result (λ store. IsFilling store new [])
  -- a crash during its three disk calls leaves it not there
  pub never_there : Throughout (OnlyAt name IsNotThere old) 3 old new
  pub no_other_file : Touches name old new

-- a cell is put into a file with these
pub record PutsIn {T E : Type 0} (cells : List NumberedCell) (cell : NumberedCell) (result : Result T E) (store now : OpenStore) (old new : DiskView)
    : Type 0 where
  -- after Ok it stands after the others, or waits to be written there
  pub filling : OnOk result (IsFilling now new (cells ++ cell ∷ []))
  -- a crash during its disk call leaves the file not there
  pub never_there : Throughout (OnlyAt store.name IsNotThere old) 1 old new

-- a file with these cells is committed
pub record Commits {T E : Type 0} (cells : List NumberedCell) (result : Result T E) (store : OpenStore) (old new : DiskView) : Type 0 where
  -- after Ok every crash leaves the store of these cells
  pub durable : OnOk result (IsDurableFile new store.name (store_text Tagged (store_of store cells)))
  -- a crash during its four disk calls leaves the file not there, or the whole store
  pub atomic : Throughout (OnlyAt store.name (IsWholeOrNot (store_text Tagged (store_of store cells))) old) 4 old new
