-- What stands in the files of several regions.
use Rattle.std.specs.Prelude.{◌≡◌, ◌≢◌, ◌≤◌, ◌^◌, ◌⊎◌, List, [], ◌∷◌, Contains}
use Rattle.log_model.specs.declared.name.Name.{Name}
use Rattle.log_model.specs.declared.name.NameKind.TheVariants as kinds
use Rattle.log_model.specs.Files.{Files, IsAbsent, IsPresent}
use Rattle.region_replay.specs.declared.found.RegionFiles.{RegionFiles}
use Rattle.region_replay.specs.Ready.{Found, IsOf}
use Rattle.region_replay.specs.Stored.{StoresReplayed}
use Rattle.region_replay.specs.Names.{store_name}
use Rattle.region_replay.specs.Regions.{IsFound}

-- no two are of one region
abbrev pub AreApart : List RegionFiles → Type 0
AreApart [] = Unit {0}
AreApart (x ∷ xs) = ((y : RegionFiles) → Contains xs y → x.region ≢ y.region) × AreApart xs

-- Each is what stands in these files, which have no log, and no edits file of region 0.
pub record AreFound (files : Files) (xs : List RegionFiles) : Type 0 where
  pub each : (x : RegionFiles) → Contains xs x → IsFound files x
  pub no_logs : (m : Name) → m.kind ≡ kinds.Log → IsAbsent files m
  pub given : (m : Name) → m.kind ≡ kinds.Edits → IsPresent files m → 1 ≤ m.region

-- each of these is of its region
abbrev pub AllOf : Files → Files → List RegionFiles → List Found → Type 0
AllOf old new [] [] = Unit {0}
AllOf old new [] (y ∷ ys) = ⊥
AllOf old new (x ∷ xs) [] = ⊥
AllOf old new (x ∷ xs) (y ∷ ys) = IsOf old new x.region y × AllOf old new xs ys

-- of each of these at most one store file is new
abbrev pub AllStoresReplayed : Files → Files → List RegionFiles → List Found → Type 0
AllStoresReplayed old new [] [] = Unit {0}
AllStoresReplayed old new [] (y ∷ ys) = ⊥
AllStoresReplayed old new (x ∷ xs) [] = ⊥
AllStoresReplayed old new (x ∷ xs) (y ∷ ys) = StoresReplayed old new x.region y × AllStoresReplayed old new xs ys

-- these regions have no edits file
abbrev pub HaveNoEdits : Files → List RegionFiles → Type 0
HaveNoEdits files xs = (x : RegionFiles) (m : Name) → Contains xs x → m.kind ≡ kinds.Edits → m.region ≡ x.region → IsAbsent files m

-- They are all that a store has: each edits file is of one of these regions, each name has a number of at most 2^63, and
-- each store is of a region from 1 to 64.
pub record AreAllFound (files : Files) (xs : List RegionFiles) : Type 0 where
  pub found : AreFound files xs
  pub all : (m : Name) → m.kind ≡ kinds.Edits → IsPresent files m → (x : RegionFiles) × Contains xs x × (x.region ≡ m.region)
  pub small : (m : Name) → IsPresent files m → m.number ≤ 2 ^ 63
  pub regions : (m : Name) → IsPresent files m → m.kind ≡ kinds.Store → (1 ≤ m.region) × (m.region ≤ 64)

-- a name that is there now was there, or is a store of one of these regions
abbrev pub NoNewNames : Files → Files → List RegionFiles → Type 0
NoNewNames old new xs = (m : Name) → IsPresent new m → IsPresent old m ⊎ ((x : RegionFiles) × Contains xs x × (m ≡ store_name x.region x.next_store))
