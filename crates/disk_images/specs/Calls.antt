-- What each call of a disk does.
use Rattle.std.specs.Prelude.{◌≡◌, ◌≢◌, ◌⊎◌, ℕ, ◌+◌, ◌-◌, ◌≤◌, ◌^◌, List, [], length, min, true, is_some, Result, OnOk}
use Rattle.log_model.specs.declared.name.Name.{Name}
use Rattle.log_model.specs.Files.{Files, content, IsAbsent, Reads, SameBut, Same, IsName}
use Rattle.disk_images.specs.Crash.{DiskView, IsImageNow, IsDurable, IsInNoImage, Follows, Shrinks, Elapses, overwritten, Torn, TornFile}

-- a count has risen; at the end of its type it stands
abbrev pub Rose : ℕ → ℕ → Type 0
Rose before now = min (before + 1) (2 ^ 64 - 1) ≤ now

-- a count of faults never falls, and a failure is answered only where it rose
pub record HasCause (before now : ℕ) (failed : Type 0) : Type 0 where
  pub later : before ≤ now
  pub risen : failed → Rose before now

-- A call that changes no file: names, size, read.
pub record Looks (old new : DiskView) : Type 0 where
  pub files : new.files ≡ old.files
  pub gone : (m : Name) → new.gone m → old.gone m
  pub formerly : (n m : Name) → new.formerly n m → old.formerly n m
  pub crash : Shrinks old new
  pub time : Elapses 1 old new

-- unsynced create: absent, or there and empty
pub record CreatedIn (name : Name) (I J : Files) : Type 0 where
  pub elsewhere : SameBut name I J
  pub here : (content J name ≡ content I name) ⊎ Reads J name []

pub record Creates {T E : Type 0} (name : Name) (result : Result T E) (old new : DiskView) : Type 0 where
  pub created : OnOk result (Reads new.files name [])
  pub either : IsAbsent new.files name ⊎ Reads new.files name []
  pub others : SameBut name old.files new.files
  pub gone : (m : Name) → new.gone m → old.gone m
  pub formerly : (n m : Name) → new.formerly n m → old.formerly n m
  pub crash : Follows (CreatedIn name) old new
  pub time : Elapses 1 old new

-- torn content: wherever the file stands in an image, the range may hold any bytes
pub record WrittenIn (name : Name) (former : Name → Type 0) (at n : ℕ) (I J : Files) : Type 0 where
  pub elsewhere : (m : Name) → m ≢ name → ¬ former m → content J m ≡ content I m
  pub here : TornFile at n (content I name) (content J name)
  pub formerly : (m : Name) → former m → TornFile at n (content I m) (content J m)

pub record Writes {T E : Type 0} (name : Name) (at : ℕ) (bytes : List ℕ) (result : Result T E) (old new : DiskView) : Type 0 where
  pub written : OnOk result ((c : List ℕ) → Reads old.files name c → Reads new.files name (overwritten c at bytes))
  -- nothing is pinned after a failure: the range may read as any bytes
  pub torn : (c : List ℕ) → Reads old.files name c → (d : List ℕ) × Reads new.files name d × Torn at (length bytes) c d
  pub others : SameBut name old.files new.files
  pub gone : (m : Name) → new.gone m → old.gone m
  pub formerly : (n m : Name) → new.formerly n m → old.formerly n m
  pub crash : Follows (WrittenIn name (old.formerly name) at (length bytes)) old new
  pub time : Elapses 1 old new

-- pinned by sync: each image has the file as a read gives it, under its name alone
pub record Syncs {T E : Type 0} (name : Name) (result : Result T E) (old new : DiskView) : Type 0 where
  pub looks : Looks old new
  pub durable : OnOk result ((c : List ℕ) → Reads old.files name c → IsDurable new name c)
  pub left : OnOk result ((m : Name) → old.formerly name m → IsInNoImage new m)
  pub pinned : OnOk result ((m : Name) → ¬ new.formerly name m)

-- renamed: under exactly one of the names that it has borne since the last settle
pub record MovedIn (from to : Name) (former : Name → Type 0) (I J : Files) : Type 0 where
  pub name : Name
  pub borne : (name ≡ from) ⊎ former name
  pub there : content J to ≡ content I name
  pub left : IsAbsent J name
  pub elsewhere : (m : Name) → m ≢ name → m ≢ to → content J m ≡ content I m

pub record Renamed (from to : Name) (old new : Files) : Type 0 where
  pub there : content new to ≡ content old from
  pub left : IsAbsent new from

pub record Renames {T E : Type 0} (from to : Name) (result : Result T E) (old new : DiskView) : Type 0 where
  pub renamed : OnOk result (Renamed from to old.files new.files)
  pub either : Renamed from to old.files new.files ⊎ Same old.files new.files
  pub others : (m : Name) → m ≢ from → m ≢ to → content new.files m ≡ content old.files m
  pub gone : (m : Name) → new.gone m → old.gone m ⊎ (m ≡ from)
  pub formerly : (n m : Name) → new.formerly n m → old.formerly n m ⊎ ((n ≡ to) × ((m ≡ from) ⊎ old.formerly from m))
  pub crash : Follows (λ I J. Same I J ⊎ MovedIn from to (old.formerly from) I J) old new
  pub time : Elapses 1 old new

-- unsettled remove: absent, or as an image had it just before
pub record RemovedIn (name : Name) (former : Name → Type 0) (I J : Files) : Type 0 where
  pub here : IsAbsent J name
  pub formerly : (m : Name) → former m → IsAbsent J m
  pub elsewhere : (m : Name) → m ≢ name → ¬ former m → content J m ≡ content I m

pub record Removes {T E : Type 0} (name : Name) (result : Result T E) (old new : DiskView) : Type 0 where
  pub removed : OnOk result (IsAbsent new.files name)
  pub either : IsAbsent new.files name ⊎ Same old.files new.files
  pub others : SameBut name old.files new.files
  pub gone : (m : Name) → new.gone m → old.gone m ⊎ (m ≡ name)
  pub formerly : (n m : Name) → new.formerly n m → old.formerly n m
  pub crash : Follows (λ I J. Same I J ⊎ RemovedIn name (old.formerly name) I J) old new
  pub time : Elapses 1 old new

pub record Settles {T E : Type 0} (result : Result T E) (old new : DiskView) : Type 0 where
  pub looks : Looks old new
  -- each image has the files that reads find, and no other
  pub pinned : OnOk result ((J : Files) (m : Name) → IsImageNow new J → is_some (content J m) ≡ is_some (content new.files m))
  pub none_gone : OnOk result ((m : Name) → ¬ new.gone m)
  pub none_former : OnOk result ((n m : Name) → ¬ new.formerly n m)

-- What holds of every disk at every moment.
pub record IsTrueDisk (disk : DiskView) : Type 0 where
  -- a name that is neither there nor gone is in no image
  pub absent : (m : Name) → IsAbsent disk.files m → ¬ disk.gone m → IsInNoImage disk m
  -- a name that is gone isn't there
  pub gone_absent : (m : Name) → disk.gone m → IsAbsent disk.files m
  -- former names are of files that are there, and are gone
  pub former_there : (n m : Name) → disk.formerly n m → is_some (content disk.files n) ≡ true
  pub former_gone : (n m : Name) → disk.formerly n m → disk.gone m
  -- log and old files have region 0
  pub named : (m : Name) → is_some (content disk.files m) ≡ true → IsName m
  -- what reads give is one of the images
  pub reads : IsImageNow disk disk.files
