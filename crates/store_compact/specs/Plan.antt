-- How a compaction goes on, step after step.
use Rattle.std.specs.Prelude.{◌≡◌, ◌≢◌, ◌⊎◌, ℕ, ◌+◌, ◌<◌, ◌≤◌, List, [], Contains, AllPairs, Some, None}
use Rattle.std.specs.declared.cmp.Ordering.TheVariants.{Less}
use Rattle.cell_model.specs.Order.{NumberedCell}
use Rattle.log_model.specs.declared.name.Name.{Name}
use Rattle.log_model.specs.declared.name.NameKind.TheVariants as names
use Rattle.log_model.specs.StoreText.{Store, IsStore}
use Rattle.log_model.specs.Files.{Files, name_cmp, content, IsPresent}
use Rattle.recovery_laws.specs.Kept.{HasNoLogs}
use Rattle.disk_images.specs.Crash.{DiskView, IsImageNow}
use Rattle.found_files.specs.declared.found.FoundStore.{FoundStore}
use Rattle.found_files.specs.Found.{store_of, AreInNameOrder}
use Rattle.found_files.specs.Counting.{AreCountingOf}

-- the store that takes the place of all of its region with lower numbers
abbrev pub whole_store : Name → ℕ → ℕ → List NumberedCell → Store
whole_store name from to cells = record { region = name.region; scope = 1; family = []; from = from; to = to; cells = cells }

-- from the least sequence id that these stores cover to the greatest
pub record AreCovered (stores : List FoundStore) (from to : ℕ) : Type 0 where
  pub low : (x : FoundStore) → Contains stores x → from ≤ x.text.from
  pub high : (x : FoundStore) → Contains stores x → x.text.to ≤ to
  pub first : (x : FoundStore) × Contains stores x × (x.text.from ≡ from)
  pub last : (x : FoundStore) × Contains stores x × (x.text.to ≡ to)

-- one above the greatest number of a store among these names, 1 where there is none
pub record IsAbove (all : List Name) (n : ℕ) : Type 0 where
  pub given : 1 ≤ n
  pub above : (m : Name) → Contains all m → m.kind ≡ names.Store → m.number < n
  pub least : (k : ℕ) → ((m : Name) → Contains all m → m.kind ≡ names.Store → m.number ≤ k) → n ≤ k + 1

-- these are the names of a region's files, and these stores of it count; the new store's name has the number above theirs
pub record AreToReplace (told : Type 0) (found : Files) (name : Name) (all : List Name) (stores : List FoundStore) : Type 0 where
  pub kind : name.kind ≡ names.Store
  pub of : (m : Name) → Contains all m → m.region ≡ name.region
  pub there : told → (m : Name) → Contains all m → IsPresent found m
  pub every : told → (m : Name) → m.kind ≡ names.Store → m.region ≡ name.region → IsPresent found m → Contains all m
  pub rise : told → AllPairs (λ a b. name_cmp a b ≡ Less) all
  pub number : IsAbove all name.number
  pub each : (x : FoundStore) → Contains stores x → IsStore (store_of x) × (x.name.kind ≡ names.Store) × (x.name.region ≡ name.region)
  pub counting : told → AreCountingOf found name.region stores
  pub in_order : told → AreInNameOrder stores

-- files in which the new store stands whole; of the region's others some may have gone, and all else is as it was found
pub record IsReplaced (found : Files) (name : Name) (text : List ℕ) (files : Files) : Type 0 where
  pub no_logs : HasNoLogs files
  pub new : content files name ≡ Some text
  pub others : (m : Name) → m.kind ≡ names.Store → m.region ≢ name.region → content files m ≡ content found m
  pub own : (m : Name) → m.kind ≡ names.Store → m.region ≡ name.region → m ≢ name → (content files m ≡ content found m) ⊎ (content files m ≡ None)

-- each image is so, and no file may come under a former name
pub record IsReplacing (found : Files) (name : Name) (text : List ℕ) (disk : DiskView) : Type 0 where
  pub images : (J : Files) → IsImageNow disk J → IsReplaced found name text J
  pub unmoved : (n m : Name) → ¬ disk.formerly n m
