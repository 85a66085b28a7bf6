-- A store file that is written.
use Rattle.std.specs.Prelude.{◌≡◌, ◌≤◌, ◌<◌, ◌+◌, ◌^◌, ℕ, List, [], ◌∷◌, ◌++◌, length}
use Rattle.byteorder.specs.Endian.{big_bytes}
use Rattle.cell_model.specs.declared.form.Form.TheVariants.{Tagged}
use Rattle.cell_model.specs.Order.{NumberedCell}
use Rattle.log_model.specs.declared.name.Name.{Name}
use Rattle.log_model.specs.StoreText.{Store, pairs_text}
use Rattle.disk_images.specs.Crash.{DiskView}
use Rattle.disk_images.specs.Gate.{IsFilled}

-- its name, its scope, the family that it holds alone, if that isn't empty, the sequence ids that it covers, the number of
-- cells that it is to have, how many were put in, how many bytes stand on the disk, and those that wait to be written
pub record OpenStore : Type 0 where
  pub name : Name
  pub scope : ℕ
  pub family : List ℕ
  pub from : ℕ
  pub to : ℕ
  pub count : ℕ
  pub filled : ℕ
  pub at : ℕ
  pub bytes : List ℕ

-- what holds of every store file that is written
pub record IsBounded (o : OpenStore) : Type 0 where
  pub small : o.at < 2 ^ 63
  pub waiting : length o.bytes ≤ 262144
  pub counted : o.filled ≤ o.at + length o.bytes

-- one that was begun with this name and these numbers
pub record IsNew (name : Name) (scope : ℕ) (family : List ℕ) (from to count : ℕ) (o : OpenStore) : Type 0 where
  pub name_is : o.name ≡ name
  pub scope_is : o.scope ≡ scope
  pub family_is : o.family ≡ family
  pub from_is : o.from ≡ from
  pub to_is : o.to ≡ to
  pub count_is : o.count ≡ count
  pub unfilled : o.filled ≡ 0

-- the same file, of which as much is to be written
pub record IsAlike (o now : OpenStore) : Type 0 where
  pub name : now.name ≡ o.name
  pub scope : now.scope ≡ o.scope
  pub family : now.family ≡ o.family
  pub from : now.from ≡ o.from
  pub to : now.to ≡ o.to
  pub count : now.count ≡ o.count

-- what stands after the gate in front of the cells: `HWS2`, the region, the scope, the family after its length, the two
-- sequence ids, and the count
unfoldable pub fields_text : ℕ → ℕ → List ℕ → ℕ → ℕ → ℕ → List ℕ
fields_text region scope family from to count =
    (72 ∷ 87 ∷ 83 ∷ 50 ∷ []) ++ (big_bytes 4 region ++ ((scope ∷ (length family ∷ family)) ++ (big_bytes 8 from ++ (big_bytes 8 to ++ big_bytes 8 count))))

-- the store that it becomes with these cells
abbrev pub store_of : OpenStore → List NumberedCell → Store
store_of o cells = record { region = o.name.region; scope = o.scope; family = o.family; from = o.from; to = o.to; cells = cells }

-- The file stands after a closed gate. What is written after the gate and what waits are the fields and these cells.
pub record IsFilling (o : OpenStore) (disk : DiskView) (cells : List NumberedCell) : Type 0 where
  pub written : List ℕ
  pub file : IsFilled disk o.name (0 ∷ []) (0 ∷ written)
  pub at : o.at ≡ length (0 ∷ written)
  pub text : written ++ o.bytes ≡ fields_text o.name.region o.scope o.family o.from o.to o.count ++ pairs_text Tagged cells
  pub filled : o.filled ≡ length cells
