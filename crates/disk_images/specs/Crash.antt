-- What a disk tells: its files as they read, its clock, and at each moment the files that a crash may leave (crash images).
use Rattle.std.specs.Prelude.{◌≡◌, ℕ, ◌+◌, ◌≤◌, max, List, ◌++◌, length, take, drop, Option, Some, None, MatchOption}
use Rattle.log_model.specs.declared.name.Name.{Name}
use Rattle.log_model.specs.Files.{Files, content, IsAbsent, Reads, SameBut, Same}

pub record DiskView : Type 1 where
  pub files : Files
  -- removed or renamed away after the last successful settle
  pub gone : Name → Type 0
  -- the file with the first name has stood under the second one since the last settle, and may stand there again after a crash
  pub formerly : Name → Name → Type 0
  -- the number of the last moment
  pub clock : ℕ
  -- these files are an image at that moment
  pub image : ℕ → Files → Type 0

-- what a crash now may leave
abbrev pub IsImageNow : DiskView → Files → Type 0
IsImageNow disk J = disk.image disk.clock J

-- a crash now leaves what reads give
abbrev pub IsQuiet : DiskView → Type 0
IsQuiet disk = (J : Files) → IsImageNow disk J → Same disk.files J

-- the file is durable with these bytes: every image now has it so
abbrev pub IsDurable : DiskView → Name → List ℕ → Type 0
IsDurable disk name bytes = (J : Files) → IsImageNow disk J → Reads J name bytes

-- the file is in no image now
abbrev pub IsInNoImage : DiskView → Name → Type 0
IsInNoImage disk name = (J : Files) → IsImageNow disk J → IsAbsent J name

-- the file with these bytes written over it at this offset, and past its end
abbrev pub overwritten : List ℕ → ℕ → List ℕ → List ℕ
overwritten old at bytes = take at old ++ bytes ++ drop (at + length bytes) old

-- a torn write of n bytes: any bytes in the range and past the old end, the same elsewhere
pub record Torn (at n : ℕ) (old new : List ℕ) : Type 0 where
  pub before : take at new ≡ take at old
  pub after : drop (at + n) new ≡ drop (at + n) old
  pub no_shorter : length old ≤ length new
  pub no_longer : length new ≤ max (length old) (at + n)

-- the same of a file in an image, which may be absent there
abbrev pub TornFile : ℕ → ℕ → Option (List ℕ) → Option (List ℕ) → Type 0
TornFile at n old new = MatchOption old (new ≡ None) (λ c. (d : List ℕ) × (new ≡ Some d) × Torn at n c d)

-- each image now is an image of before after a step
abbrev pub Follows : (Files → Files → Type 0) → DiskView → DiskView → Type 0
Follows step old new = (J : Files) → IsImageNow new J → (I : Files) × IsImageNow old I × step I J

-- each image now was one before
abbrev pub Shrinks : DiskView → DiskView → Type 0
Shrinks old new = (J : Files) → IsImageNow new J → IsImageNow old J

-- The clock rises by at most so much, and the images of former moments stay.
pub record Elapses (by : ℕ) (old new : DiskView) : Type 0 where
  pub later : old.clock ≤ new.clock
  pub by_most : new.clock ≤ old.clock + by
  pub past : (t : ℕ) (J : Files) → t ≤ old.clock → new.image t J → old.image t J
  pub kept : (t : ℕ) (J : Files) → t ≤ old.clock → old.image t J → new.image t J

-- At each moment from old's last one to new's last one each image has P. Former moments stay as they were.
pub record Throughout (P : Files → Type 0) (by : ℕ) (old new : DiskView) : Type 0 where
  pub time : Elapses by old new
  pub each : (t : ℕ) (J : Files) → old.clock ≤ t → t ≤ new.clock → new.image t J → P J

-- an image in which only one file differs from an image of old, and that file has Q
pub record OnlyAt (name : Name) (Q : Option (List ℕ) → Type 0) (old : DiskView) (J : Files) : Type 0 where
  pub base : Files
  pub was : IsImageNow old base
  pub elsewhere : SameBut name base J
  pub here : Q (content J name)

-- From this moment on, up to the last one, each image has P.
pub record Since (from : ℕ) (P : Files → Type 0) (disk : DiskView) : Type 0 where
  pub begun : from ≤ disk.clock
  pub each : (t : ℕ) (J : Files) → from ≤ t → t ≤ disk.clock → disk.image t J → P J
