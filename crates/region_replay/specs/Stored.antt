-- The store file that a replay writes of a region.
use Rattle.std.specs.Prelude.{◌≡◌, ◌≢◌, ℕ, ◌+◌, ◌<◌, ◌≤◌, List, []}
use Rattle.log_model.specs.declared.name.Name.{Name}
use Rattle.log_model.specs.declared.name.NameKind.TheVariants as kinds
use Rattle.log_model.specs.StoreText.{Store}
use Rattle.log_model.specs.Files.{Files, content, IsAbsent, IsPresent, IsStoreFile}
use Rattle.log_model.specs.Recovered.{IsWhole}
use Rattle.region_replay.specs.Names.{store_name}
use Rattle.region_replay.specs.Ready.{Found}

-- the number of the region's next store file: one above the greatest that is there, 1 where there is none
pub record IsNextNumber (files : Files) (r n : ℕ) : Type 0 where
  pub given : 1 ≤ n
  pub above : (m : Name) → m.kind ≡ kinds.Store → m.region ≡ r → IsPresent files m → m.number < n
  pub least : (k : ℕ) → ((m : Name) → m.kind ≡ kinds.Store → m.region ≡ r → IsPresent files m → m.number ≤ k) → n ≤ k + 1

-- the store file of this name is there, is of all families, replaces none, and goes from one sequence id to another
pub record HasReplayStore (files : Files) (name : Name) (first last : ℕ) : Type 0 where
  pub store : Store
  pub file : IsStoreFile files name.region name store
  pub scope : store.scope ≡ 0
  pub family : store.family ≡ []
  pub from : store.from ≡ first
  pub to : store.to ≡ last

-- Of the region one store file at most is new, and it has the next number of the files as they were found. It is written where
-- the whole region was flushed up to a lower sequence id than the last one, and goes from one above that up to the last.
pub record StoresReplayed (old new : Files) (r : ℕ) (x : Found) : Type 0 where
  pub whole : ℕ
  pub was : IsWhole old r whole
  pub reaches : whole ≤ x.base.last
  pub number : ℕ
  pub next : IsNextNumber old r number
  pub stored : whole < x.base.last → HasReplayStore new (store_name r number) (whole + 1) x.base.last × (x.next_store ≡ number + 1)
  pub none : whole ≡ x.base.last → IsAbsent new (store_name r number) × (x.next_store ≡ number)
  pub others : (m : Name) → m.kind ≡ kinds.Store → m.region ≡ r → m ≢ store_name r number → content new m ≡ content old m
