-- What the accounting has of each region and family, and of each closed file. Lists are by region, read by `get_or list region`.
use Rattle.std.specs.Prelude.{◌≡◌, ◌≢◌, ℕ, ◌<◌, ◌≤◌, max, Bool, true, leb, ◌==◌, ◌&&◌, ◌||◌, List, [], ◌∷◌, length, get_or, not, filter, map, Contains}
use Rattle.cell_model.specs.Cell.{Cell}
use Rattle.seq_accounting.specs.Marks.{FamilyMark, is_same, first_given, number_of, has_family}
use Rattle.seq_accounting.specs.declared.region.RegionMark.{RegionMark}

-- a closed file, with the highest number in it of each family of a region
pub record ClosedFile : Type 0 where
  pub file : ℕ
  pub highest : List FamilyMark

pub record Accounts : Type 0 where
  -- what is flushed of each whole region, and the highest number noted, or flushed
  pub whole : List ℕ
  pub noted : List ℕ
  -- the number being flushed, 0 where none is
  pub flushing : List ℕ
  -- up to which families are flushed that were flushed alone
  pub flushed : List (List FamilyMark)
  -- the least number above the flushed one that was noted while no flush was under way, and the first one since it began
  pub oldest : List (List FamilyMark)
  pub since : List (List FamilyMark)
  -- the highest numbers in the current file
  pub current : List FamilyMark
  -- the files that are closed and not forgotten, in rising number
  pub closed : List ClosedFile
  -- the number of the last file closed, 0 where none was
  pub last : ℕ
  -- for how many more closed files there is room
  pub room : ℕ

-- a region is flushed up to this number once the flush is completed: one family, or all where it is empty
pub record Flush : Type 0 where
  pub region : ℕ
  pub family : List ℕ
  pub number : ℕ

-- whether a flush of this family, or of all where it is empty, is one of the other
abbrev pub is_for : List ℕ → List ℕ → Bool
is_for family f = length family == 0 || is_same family f

-- what is flushed of a family: what is flushed of the whole region, or more where the family was flushed alone
abbrev pub flushed_by : List ℕ → List (List FamilyMark) → ℕ → List ℕ → ℕ
flushed_by whole flushed r f = max (get_or whole r 0) (number_of (get_or flushed r []) r f)

abbrev pub flushed_at : Accounts → ℕ → List ℕ → ℕ
flushed_at a r f = flushed_by a.whole a.flushed r f

-- the first number noted since the flush under way began, of an entry with a cell of this family; 0 where there is none
abbrev pub since_at : Accounts → ℕ → List ℕ → ℕ
since_at a r f = number_of (get_or a.since r []) r f

-- the least noted number above the family's flushed one, 0 where there is none
abbrev pub oldest_at : Accounts → ℕ → List ℕ → ℕ
oldest_at a r f = first_given (number_of (get_or a.oldest r []) r f) (since_at a r f)

-- of each family of each region the highest number is at or below the flushed one
abbrev pub AreLowerBy : List ℕ → List (List FamilyMark) → List FamilyMark → Type 0
AreLowerBy whole flushed highest = (r : ℕ) (f : List ℕ) → number_of highest r f ≤ flushed_by whole flushed r f

abbrev pub AreLower : Accounts → List FamilyMark → Type 0
AreLower a highest = AreLowerBy a.whole a.flushed highest

-- the same as a test of each mark
abbrev pub are_lower : List ℕ → List (List FamilyMark) → List FamilyMark → Bool
are_lower whole flushed [] = true
are_lower whole flushed (m ∷ ms) = leb m.number (flushed_by whole flushed m.region m.family) && are_lower whole flushed ms

-- a file of this number is closed and not forgotten
abbrev pub IsClosed : List ClosedFile → ℕ → Type 0
IsClosed closed file = ∥ ((c : ClosedFile) × Contains closed c × (c.file ≡ file)) ∥₁

-- the number of the first one is below that of the second
abbrev pub IsBefore : ClosedFile → ClosedFile → Type 0
IsBefore c d = c.file < d.file

-- the files of which not all is flushed
abbrev pub unflushed : Accounts → List ClosedFile
unflushed a = filter (λ c. not (are_lower a.whole a.flushed c.highest)) a.closed

abbrev pub NoneClosedAbove : List ClosedFile → ℕ → Type 0
NoneClosedAbove closed after = (c : ClosedFile) → Contains closed c → c.file ≤ after

-- the least closed file above this number
pub record IsNextClosed (closed : List ClosedFile) (after file : ℕ) : Type 0 where
  pub which : ClosedFile
  pub there : Contains closed which
  pub named : which.file ≡ file
  pub above : after < file
  pub least : (c : ClosedFile) → Contains closed c → after < c.file → file ≤ c.file

-- each region is marked once at most
abbrev pub AreApart : RegionMark → RegionMark → Type 0
AreApart m n = m.region ≢ n.region

-- what is flushed of each region is what its mark says, and nothing where it has none
pub record AreFlushed (marks : List RegionMark) (flushed : List ℕ) : Type 0 where
  pub marked : (m : RegionMark) → Contains marks m → get_or flushed m.region 0 ≡ m.flushed
  pub others : (r : ℕ) → ((m : RegionMark) → Contains marks m → m.region ≢ r) → get_or flushed r 0 ≡ 0

-- these are the families of the cells
abbrev pub AreFamiliesOf : List Cell → List (List ℕ) → Type 0
AreFamiliesOf cells families = (f : List ℕ) → has_family families f ≡ has_family (map (λ c. c.family) cells) f
