-- The stores that count.
use Rattle.std.specs.Prelude.{◌≡◌, ◌<◌, ◌≤◌, nat_le, ℕ, List, filter, length, slice_index, Contains}
use Rattle.log_model.specs.declared.name.Name.{Name}
use Rattle.log_model.specs.StoreText.{Store}
use Rattle.log_model.specs.Files.{Files}
use Rattle.log_model.specs.Recovered.{IsGreatest, IsCounting}
use Rattle.found_files.specs.declared.found.FoundStore.{FoundStore}
use Rattle.found_files.specs.Found.{store_of, AreInNameOrder}

-- one of these stores of the region is of the scope 1 and has this number
abbrev pub Replaces : List FoundStore → ℕ → ℕ → Type 0
Replaces stores r n = (x : FoundStore) × Contains stores x × (x.name.region ≡ r) × (x.text.scope ≡ 1) × (x.name.number ≡ n)

-- the number of each region's last store of the scope 1
pub record AreFirstNumbers (stores : List FoundStore) (first : List ℕ) : Type 0 where
  pub long : length first ≡ 65
  pub each : (r : ℕ) → r < 65 → IsGreatest (Replaces stores r) (slice_index first r)

abbrev pub counting_among : List ℕ → List FoundStore → List FoundStore
counting_among first stores = filter (λ (x : FoundStore). nat_le (slice_index first x.name.region) x.name.number) stores

-- none of these stores stands in its place
abbrev pub Stands : List FoundStore → FoundStore → Type 0
Stands stores x = (y : FoundStore) → Contains stores y → y.name.region ≡ x.name.region → y.text.scope ≡ 1 → y.name.number ≤ x.name.number

-- those of these stores that count, in their order
pub record AreCounting (stores counting : List FoundStore) : Type 0 where
  pub each : (x : FoundStore) → Contains counting x → Contains stores x × Stands stores x
  pub all : (x : FoundStore) → Contains stores x → Stands stores x → Contains counting x
  pub rising : AreInNameOrder stores → AreInNameOrder counting

-- the stores of the region that count in these files are those of the list
pub record AreCountingOf (files : Files) (r : ℕ) (ss : List FoundStore) : Type 0 where
  pub each : (x : FoundStore) → Contains ss x → x.name.region ≡ r → IsCounting files r x.name (store_of x)
  pub all : (m : Name) (s : Store) → IsCounting files r m s → (x : FoundStore) × Contains ss x × (x.name ≡ m) × (s ≡ store_of x)
