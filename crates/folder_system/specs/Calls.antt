-- What each call of the system does. Sources: the manual pages that are named, and what Linux's file systems were seen to do.
use Rattle.std.specs.Prelude.{◌≡◌, ◌≢◌, ◌⊎◌, ℕ, ◌+◌, ◌≤◌, List, [], length, Some, None, Result, OnOk, OnErr, IfOk}
use Rattle.std.specs.FinMap.{get, insert, remove}
use Rattle.log_model.specs.declared.name.Name.{Name}
use Rattle.disk_images.specs.Crash.{overwritten, Torn}
use Rattle.folder_system.specs.System.{Folder, Bytes, SystemView, IsImage}

-- A call lies within the present moment. A crash inside it leaves what one just before it or just after it may leave.
pub record IsWithin (old new : SystemView) : Type 0 where
  pub clock : new.clock ≡ old.clock
  pub past : (t : ℕ) (D : Folder) (B : Bytes) → t ≤ old.clock → new.image t D B → old.image t D B ⊎ ((t ≡ old.clock) × new.now D B)
  pub kept : (t : ℕ) (D : Folder) (B : Bytes) → t ≤ old.clock → old.image t D B → new.image t D B

-- A call that changes no name of a file and no byte, and takes images away at most. A doubtful inode may read otherwise
-- afterwards: a clean page may be dropped at any time, and is read anew from the disk.
pub record Observes (old new : SystemView) : Type 0 where
  pub folder : new.folder ≡ old.folder
  pub bytes : (i : ℕ) → ¬ old.doubtful i → new.bytes i ≡ old.bytes i
  pub now : (D : Folder) (B : Bytes) → new.now D B → old.now D B
  pub within : IsWithin old new

-- no other inode than this one is newly doubtful
abbrev pub NoneButNewlyDoubtful : ℕ → SystemView → SystemView → Type 0
NoneButNewlyDoubtful i old new = (j : ℕ) → j ≢ i → new.doubtful j → old.doubtful j

abbrev pub NoneNewlyDoubtful : SystemView → SystemView → Type 0
NoneNewlyDoubtful old new = (j : ℕ) → new.doubtful j → old.doubtful j

-- readdir(3), stat(2), open(2) of a file that is there, pread(2)
pub record Looks (old new : SystemView) : Type 0 where
  pub observes : Observes old new
  pub parts : new.parts ≡ old.parts
  pub sure : NoneNewlyDoubtful old new

-- A file is made: empty, with an inode that no name leads to, and in no image. A crash may leave the name or not.
pub record Made (name : Name) (i : ℕ) (old new : SystemView) : Type 0 where
  pub folder : new.folder ≡ insert old.folder name i
  pub parts : new.parts ≡ old.parts
  pub empty : new.bytes i ≡ []
  pub fresh : (D : Folder) (B : Bytes) (m : Name) → IsImage old D B → get D m ≢ Some i
  pub bytes : (j : ℕ) → j ≢ i → ¬ old.doubtful j → new.bytes j ≡ old.bytes j
  pub certain : ¬ new.doubtful i
  pub sure : NoneButNewlyDoubtful i old new
  pub now : (D : Folder) (B : Bytes) → new.now D B
      → (E : Folder) × (C : Bytes) × old.now E C × ((j : ℕ) → j ≢ i → B j ≡ C j) × ((D ≡ E) ⊎ ((D ≡ insert E name i) × (B i ≡ [])))
  pub within : IsWithin old new

-- open(2) with O_CREAT and O_EXCL. Where it answers an error the file was made, or it wasn't.
pub record Creates {H E : Type 0} (inode : H → ℕ) (name : Name) (result : Result H E) (old new : SystemView) : Type 0 where
  pub made : IfOk result (λ h. Made name (inode h) old new)
  pub failed : OnErr result (Looks old new ⊎ ((i : ℕ) × Made name i old new))

-- pwrite(2), until all bytes are written. POSIX promises nothing of them before an fsync: a crash may leave any bytes in the
-- range, and the file with any part of it. A write-back that fails is reported by the next fsync of the inode.
pub record Writes {T E : Type 0} (i at : ℕ) (bytes : List ℕ) (result : Result T E) (old new : SystemView) : Type 0 where
  pub folder : new.folder ≡ old.folder
  pub parts : new.parts ≡ old.parts
  pub written : OnOk result (new.bytes i ≡ overwritten (old.bytes i) at bytes)
  pub torn : Torn at (length bytes) (old.bytes i) (new.bytes i)
  pub others : (j : ℕ) → j ≢ i → ¬ old.doubtful j → new.bytes j ≡ old.bytes j
  pub certain : OnOk result (NoneNewlyDoubtful old new)
  pub sure : NoneButNewlyDoubtful i old new
  pub now : (D : Folder) (B : Bytes) → new.now D B
      → (C : Bytes) × old.now D C × ((j : ℕ) → j ≢ i → B j ≡ C j) × Torn at (length bytes) (C i) (B i)
  pub within : IsWithin old new

-- fsync(2) of a file pins its bytes. It pins no name: "an explicit fsync() on a file descriptor for the directory is also needed".
-- Where it answers an error (EIO, ENOSPC, EDQUOT) Linux has marked the pages clean that it couldn't write: the inode may be
-- doubtful from then on, and the next fsync answers ok and pins nothing.
pub record SyncsFile {T E : Type 0} (i : ℕ) (result : Result T E) (old new : SystemView) : Type 0 where
  pub observes : Observes old new
  pub parts : new.parts ≡ old.parts
  pub certain : OnOk result (NoneNewlyDoubtful old new)
  pub sure : NoneButNewlyDoubtful i old new
  pub pinned : OnOk result (¬ old.doubtful i → (D : Folder) (B : Bytes) → new.now D B → B i ≡ new.bytes i)

-- A file has another name: one change, which a crash may undo. Changes of one inode's name reach the disk in their order.
pub record Moved (i : ℕ) (from to : Name) (old new : SystemView) : Type 0 where
  pub was : get old.folder from ≡ Some i
  pub folder : new.folder ≡ insert (remove old.folder from) to i
  pub parts : new.parts ≡ old.parts
  pub bytes : (j : ℕ) → ¬ old.doubtful j → new.bytes j ≡ old.bytes j
  pub sure : NoneNewlyDoubtful old new
  pub now : (D : Folder) (B : Bytes) → new.now D B
      → (E : Folder) × old.now E B × ((D ≡ E) ⊎ ((n : Name) × (get E n ≡ Some i) × (D ≡ insert (remove E n) to i)))
  pub within : IsWithin old new

-- rename(2) to a name that isn't there. Where it answers an error it was done, or it wasn't.
pub record Renames {T E : Type 0} (from to : Name) (result : Result T E) (old new : SystemView) : Type 0 where
  pub moved : OnOk result ((i : ℕ) × Moved i from to old new)
  pub failed : OnErr result (Looks old new ⊎ ((i : ℕ) × Moved i from to old new))

-- the folder without the names that lead to an inode
pub record Without (i : ℕ) (E D : Folder) : Type 0 where
  pub left : (m : Name) → get E m ≡ Some i → get D m ≡ None
  pub others : (m : Name) → get E m ≢ Some i → get D m ≡ get E m

-- A file is unlinked, which a crash may undo.
pub record Unlinked (i : ℕ) (name : Name) (old new : SystemView) : Type 0 where
  pub was : get old.folder name ≡ Some i
  pub folder : new.folder ≡ remove old.folder name
  pub parts : new.parts ≡ old.parts
  pub bytes : (j : ℕ) → ¬ old.doubtful j → new.bytes j ≡ old.bytes j
  pub sure : NoneNewlyDoubtful old new
  pub now : (D : Folder) (B : Bytes) → new.now D B → (E : Folder) × old.now E B × ((D ≡ E) ⊎ Without i E D)
  pub within : IsWithin old new

-- unlink(2). Where it answers an error it was done, or it wasn't.
pub record Unlinks {T E : Type 0} (name : Name) (result : Result T E) (old new : SystemView) : Type 0 where
  pub unlinked : OnOk result ((i : ℕ) × Unlinked i name old new)
  pub failed : OnErr result (Looks old new ⊎ ((i : ℕ) × Unlinked i name old new))

-- fsync(2) of the folder pins the names of the files, and no byte of them. The first one takes with it the folder around it, and so
-- the folder's own name.
pub record SyncsFolder {T E : Type 0} (result : Result T E) (old new : SystemView) : Type 0 where
  pub looks : Looks old new
  pub pinned : OnOk result ((D : Folder) (B : Bytes) → new.now D B → D ≡ new.folder)

-- A copy is begun: NAME.part is a new file, empty, whatever stood there. No image has its inode, and no file's name changes.
pub record PartMade (name : Name) (i : ℕ) (old new : SystemView) : Type 0 where
  pub folder : new.folder ≡ old.folder
  pub parts : new.parts ≡ insert old.parts name i
  pub empty : new.bytes i ≡ []
  pub fresh : (D : Folder) (B : Bytes) (m : Name) → IsImage old D B → get D m ≢ Some i
  pub bytes : (j : ℕ) → j ≢ i → ¬ old.doubtful j → new.bytes j ≡ old.bytes j
  pub certain : ¬ new.doubtful i
  pub sure : NoneButNewlyDoubtful i old new
  pub now : (D : Folder) (B : Bytes) → new.now D B → (C : Bytes) × old.now D C × ((j : ℕ) → j ≢ i → B j ≡ C j)
  pub within : IsWithin old new

-- unlink(2) of NAME.part where it is there, then open(2) of it with O_CREAT and O_EXCL. Where one of them answers an error the copy
-- was begun, or the files are as they were, and NAME.part is there or not.
pub record CreatesPart {H E : Type 0} (inode : H → ℕ) (name : Name) (result : Result H E) (old new : SystemView) : Type 0 where
  pub made : IfOk result (λ h. PartMade name (inode h) old new)
  pub failed : OnErr result ((Observes old new × NoneNewlyDoubtful old new) ⊎ ((i : ℕ) × PartMade name i old new))

-- A copy gets its file's name: one change, which a crash may undo. It leads to the copy afterwards, or to what it led to.
pub record Placed (name : Name) (i : ℕ) (old new : SystemView) : Type 0 where
  pub was : get old.parts name ≡ Some i
  pub folder : new.folder ≡ insert old.folder name i
  pub parts : new.parts ≡ remove old.parts name
  pub bytes : (j : ℕ) → ¬ old.doubtful j → new.bytes j ≡ old.bytes j
  pub sure : NoneNewlyDoubtful old new
  pub now : (D : Folder) (B : Bytes) → new.now D B → (E : Folder) × old.now E B × ((D ≡ E) ⊎ (D ≡ insert E name i))
  pub within : IsWithin old new

-- rename(2) of NAME.part to NAME: "If newpath already exists, it will be atomically replaced". Where it answers an error it was
-- done, or it wasn't.
pub record PutsInPlace {T E : Type 0} (name : Name) (result : Result T E) (old new : SystemView) : Type 0 where
  pub placed : OnOk result ((i : ℕ) × Placed name i old new)
  pub failed : OnErr result (Looks old new ⊎ ((i : ℕ) × Placed name i old new))

-- The caller counts a new moment. Nothing is done.
pub record Ticks (old new : SystemView) : Type 0 where
  pub folder : new.folder ≡ old.folder
  pub parts : new.parts ≡ old.parts
  pub bytes : new.bytes ≡ old.bytes
  pub doubtful : NoneNewlyDoubtful old new
  pub now : (D : Folder) (B : Bytes) → new.now D B → old.now D B
  pub clock : new.clock ≡ old.clock + 1
  pub begins : (D : Folder) (B : Bytes) → IsImage new D B → new.now D B
  pub past : (t : ℕ) (D : Folder) (B : Bytes) → t ≤ old.clock → new.image t D B → old.image t D B
  pub kept : (t : ℕ) (D : Folder) (B : Bytes) → t ≤ old.clock → old.image t D B → new.image t D B
