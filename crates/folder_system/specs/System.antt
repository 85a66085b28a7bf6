-- A folder of files as Linux keeps it: names lead to inodes, inodes have bytes, and a crash may leave other names and other bytes.
use Rattle.std.specs.Prelude.{◌≡◌, ℕ, List, Some, true, is_some}
use Rattle.std.specs.FinMap.{FinMap, get}
use Rattle.log_model.specs.declared.name.Name.{Name}
use Rattle.log_model.specs.Files.{name_cmp, IsName}

-- The names in a folder and the inodes that they lead to. An inode is a file's identity: the numbers of the system are given
-- again after an unlink, these are not.
abbrev pub Folder : Type 0
Folder = FinMap name_cmp ℕ

-- the bytes of each inode
abbrev pub Bytes : Type 0
Bytes = ℕ → List ℕ

pub record SystemView : Type 1 where
  -- the names as lookups find them; a folder that isn't there has none
  pub folder : Folder
  -- the copies that wait for their place: what NAME.part leads to, by NAME. A crash may leave any, so that images have none.
  pub parts : Folder
  -- the bytes as reads give them; of a doubtful inode no read is believed
  pub bytes : Bytes
  -- A write or fsync of this inode has failed: its pages may count as clean though the disk doesn't have them. No later fsync pins
  -- it, and a read may give what was written or what the disk has. An inode that is made is not doubtful.
  pub doubtful : ℕ → Type 0
  -- what a crash now may leave
  pub now : Folder → Bytes → Type 0
  -- The number of the present moment. A moment lasts from one tick to the next; the caller ticks.
  pub clock : ℕ
  -- what a crash within that moment may leave
  pub image : ℕ → Folder → Bytes → Type 0

-- what a crash within the present moment may leave
abbrev pub IsImage : SystemView → Folder → Bytes → Type 0
IsImage v D B = v.image v.clock D B

-- What holds of every folder at every moment.
pub record IsTrueSystem (v : SystemView) : Type 0 where
  -- what lookups and reads give is one of the images
  pub reads : v.now v.folder v.bytes
  -- now is within the present moment
  pub within : (D : Folder) (B : Bytes) → v.now D B → IsImage v D B
  -- no hard links
  pub single : (m n : Name) (i : ℕ) → get v.folder m ≡ Some i → get v.folder n ≡ Some i → m ≡ n
  -- log and old files have region 0
  pub named : (m : Name) → is_some (get v.folder m) ≡ true → IsName m
