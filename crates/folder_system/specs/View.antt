-- The folder as a disk of named files.
use Rattle.std.specs.Prelude.{◌≡◌, ℕ, List, map, Contains, Some, None, is_some}
use Rattle.std.specs.FinMap.{get, from_sorted, entries}
use Rattle.log_model.specs.declared.name.Name.{Name}
use Rattle.log_model.specs.Files.{Files, Reads}
use Rattle.folder_system.specs.declared.open_files.OpenFile.{OpenFile}
use Rattle.disk_images.specs.Crash.{DiskView}
use Rattle.folder_system.specs.System.{Folder, Bytes, SystemView, IsImage}

abbrev pub with_bytes : Bytes → List (Name × ℕ) → List (Name × List ℕ)
with_bytes B es = map (λ e. (e.0, B e.1)) es

-- the files that these names lead to
abbrev pub files_of : Folder → Bytes → Files
files_of D B = from_sorted (with_bytes B (entries D))

-- a crash within the present moment may leave this name leading to the inode
pub record MayLead (v : SystemView) (m : Name) (i : ℕ) : Type 0 where
  pub folder : Folder
  pub bytes : Bytes
  pub image : IsImage v folder bytes
  pub leads : get folder m ≡ Some i

abbrev pub IsGone : SystemView → Name → Type 0
IsGone v m = (get v.folder m ≡ None) × ((i : ℕ) × MayLead v m i)

abbrev pub IsFormerly : SystemView → Name → Name → Type 0
IsFormerly v n m = (i : ℕ) × (get v.folder n ≡ Some i) × (get v.folder m ≡ None) × MayLead v m i

abbrev pub disk_view : SystemView → DiskView
disk_view v = record {
  files = files_of v.folder v.bytes;
  gone = IsGone v;
  formerly = IsFormerly v;
  clock = v.clock;
  image = λ t J. (D : Folder) × (B : Bytes) × v.image t D B × (files_of D B ≡ J);
}

-- no file in the folder is doubtful
abbrev pub IsSure : SystemView → Type 0
IsSure v = (m : Name) (i : ℕ) → get v.folder m ≡ Some i → ¬ v.doubtful i

-- In all images a name leads to one inode. So it is where no name is used again before the names are durable.
abbrev pub IsPlain : SystemView → Type 0
IsPlain v = (m : Name) (i j : ℕ) → MayLead v m i → MayLead v m j → i ≡ j

-- in each image each file has its name
abbrev pub HasEachName : SystemView → Type 0
HasEachName v = (D : Folder) (B : Bytes) (m : Name) (i : ℕ) → IsImage v D B → get v.folder m ≡ Some i → get D m ≡ Some i

-- and no other name
abbrev pub HasNoOtherName : SystemView → Type 0
HasNoOtherName v = (m n : Name) (i : ℕ) → MayLead v n i → get v.folder m ≡ Some i → get v.folder n ≡ Some i

-- the names of the files are durable
pub record AreNamesPinned (v : SystemView) : Type 0 where
  pub there : HasEachName v
  pub alone : HasNoOtherName v

-- What the adapter keeps. After a fault it keeps nothing, and refuses each call.
pub record IsGood (v : SystemView) : Type 0 where
  pub sure : IsSure v
  pub plain : IsPlain v

-- no image is new, and no file is newly doubtful
pub record Keeps (old new : SystemView) : Type 0 where
  pub sure : IsSure old → IsSure new
  pub plain : IsPlain old → IsPlain new
  pub pinned : AreNamesPinned old → AreNamesPinned new

-- each open file is the one that its name leads to
abbrev pub AreOpen : {H : Type 0} → (H → ℕ) → SystemView → List (OpenFile H) → Type 0
AreOpen {H} inode v files = (f : OpenFile H) → Contains files f → get v.folder f.name ≡ Some (inode f.file)

-- What an opening leaves: the names that were found, durable, and no doubtful file. A file that wasn't doubtful has its bytes.
pub record Opens (old new : SystemView) : Type 0 where
  pub good : IsGood new
  pub pinned : AreNamesPinned new
  pub names : (m : Name) → is_some (get new.folder m) ≡ is_some (get old.folder m)
  pub bytes : (m : Name) (i : ℕ) → get old.folder m ≡ Some i → ¬ old.doubtful i → Reads (files_of new.folder new.bytes) m (old.bytes i)
