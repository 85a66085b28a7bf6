-- How an opening makes sure of the files.
use Rattle.std.specs.Prelude.{◌≡◌, ◌≢◌, ◌⊎◌, ◌+◌, ◌≤◌, ℕ, List, length, take, Contains, Some, is_some}
use Rattle.std.specs.FinMap.{get}
use Rattle.log_model.specs.declared.name.Name.{Name}
use Rattle.log_model.specs.Files.{content}
use Rattle.folder_system.specs.System.{Folder, Bytes, SystemView, IsImage}
use Rattle.folder_system.specs.Calls.{NoneNewlyDoubtful}
use Rattle.folder_system.specs.View.{files_of}

-- a file that wasn't doubtful has its bytes under its name, in an inode that isn't either
abbrev pub KeepsBytes : SystemView → SystemView → Type 0
KeepsBytes old new = (m : Name) (i : ℕ) → get old.folder m ≡ Some i → ¬ old.doubtful i
    → (j : ℕ) × (get new.folder m ≡ Some j) × (¬ new.doubtful j) × (new.bytes j ≡ old.bytes i)

-- in this image a file is as an image of the present moment of old has it
abbrev pub FromImage : SystemView → Folder → Bytes → Name → Type 0
FromImage old D B m = (E : Folder) × (C : Bytes) × IsImage old E C × (content (files_of D B) m ≡ content (files_of E C) m)

-- or as it reads now, and no read of it is in doubt
abbrev pub AsRead : SystemView → Folder → Bytes → Name → Type 0
AsRead v D B m = (i : ℕ) × (get v.folder m ≡ Some i) × (¬ v.doubtful i) × (content (files_of D B) m ≡ Some (v.bytes i))

-- An opening lies within the present moment, and one more. A crash at either leaves each file as one before it did, or as it reads
-- after it.
pub record OpensSafely (old new : SystemView) : Type 0 where
  pub clock : new.clock ≡ old.clock + 1
  pub before : (D : Folder) (B : Bytes) (m : Name) → new.image old.clock D B → FromImage old D B m ⊎ AsRead new D B m
  pub after : (D : Folder) (B : Bytes) (m : Name) → IsImage new D B → FromImage old D B m ⊎ AsRead new D B m

-- a crash within the present moment leaves each file as one before did, or as it reads now
abbrev pub LeavesEither : SystemView → SystemView → Type 0
LeavesEither old new = (D : Folder) (B : Bytes) (m : Name) → IsImage new D B → FromImage old D B m ⊎ AsRead new D B m

-- one file: it may have another inode, which isn't doubtful
pub record Renews (name : Name) (old new : SystemView) : Type 0 where
  pub clock : new.clock ≡ old.clock
  pub elsewhere : (m : Name) → m ≢ name → get new.folder m ≡ get old.folder m
  pub there : is_some (get new.folder name) ≡ is_some (get old.folder name)
  pub certain : (i : ℕ) → get new.folder name ≡ Some i → ¬ new.doubtful i
  pub bytes : KeepsBytes old new
  pub images : LeavesEither old new

-- these files
pub record Mends (old new : SystemView) (names : List Name) : Type 0 where
  pub clock : new.clock ≡ old.clock
  pub same : (m : Name) → is_some (get new.folder m) ≡ is_some (get old.folder m)
  pub certain : (m : Name) (i : ℕ) → Contains names m → get new.folder m ≡ Some i → ¬ new.doubtful i
  pub bytes : KeepsBytes old new
  pub images : LeavesEither old new

-- calls that change the bytes of one inode alone
pub record Beside (i : ℕ) (old new : SystemView) : Type 0 where
  pub clock : new.clock ≡ old.clock
  pub folder : new.folder ≡ old.folder
  pub parts : new.parts ≡ old.parts
  pub others : (j : ℕ) → j ≢ i → ¬ old.doubtful j → new.bytes j ≡ old.bytes j
  pub sure : NoneNewlyDoubtful old new
  pub images : (D : Folder) (B : Bytes) → IsImage new D B → (C : Bytes) × IsImage old D C × ((j : ℕ) → j ≢ i → B j ≡ C j)

-- inode i has the bytes of inode k; of a doubtful one any may have been read
pub record Copies (k i : ℕ) (old new : SystemView) : Type 0 where
  pub beside : Beside i old new
  pub copied : ¬ old.doubtful k → new.bytes i ≡ old.bytes k

-- n bytes more of them, at the end; none where k ends there
pub record Grows (k i at n : ℕ) (old new : SystemView) : Type 0 where
  pub beside : Beside i old new
  pub ends : length (new.bytes i) ≡ at + n
  pub more : ¬ old.doubtful k → old.bytes i ≡ take at (old.bytes k) → new.bytes i ≡ take (at + n) (old.bytes k)
  pub last : n ≡ 0 → ¬ old.doubtful k → length (old.bytes k) ≤ at
