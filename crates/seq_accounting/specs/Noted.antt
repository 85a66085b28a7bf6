-- Numbers that were noted with the families of their cells, and what the accounting has of them.
use Rattle.std.specs.Prelude.{◌≡◌, ℕ, ◌<◌, ◌≤◌, Bool, true, ◌==◌, ◌&&◌, List, get_or, Contains}
use Rattle.seq_accounting.specs.Marks.{has_family}
use Rattle.seq_accounting.specs.Accounts.{Accounts, flushed_at, oldest_at, since_at}

-- an entry of this number, with the families of its cells
pub record Note : Type 0 where
  pub region : ℕ
  pub number : ℕ
  pub families : List (List ℕ)

-- the entry is of this region and has a cell of this family
abbrev pub is_noted_of : Note → ℕ → List ℕ → Bool
is_noted_of x r f = x.region == r && has_family x.families f

abbrev pub NoneAbove : List Note → ℕ → List ℕ → ℕ → Type 0
NoneAbove notes r f n = (x : Note) → Contains notes x → is_noted_of x r f ≡ true → x.number ≤ n

-- the least number above n that was noted of an entry of the region with a cell of the family
pub record IsLeastAbove (notes : List Note) (r : ℕ) (f : List ℕ) (n least : ℕ) : Type 0 where
  pub note : Note
  pub member : Contains notes note
  pub of : is_noted_of note r f ≡ true
  pub number : note.number ≡ least
  pub above : n < least
  pub lowest : (x : Note) → Contains notes x → is_noted_of x r f ≡ true → n < x.number → least ≤ x.number

-- the same, or 0 where there is none
pub record IsFirstAbove (notes : List Note) (r : ℕ) (f : List ℕ) (n first : ℕ) : Type 0 where
  pub none : first ≡ 0 → NoneAbove notes r f n
  pub some : 0 < first → IsLeastAbove notes r f n first

-- these were noted, in order
pub record HasNoted (a : Accounts) (notes : List Note) : Type 0 where
  pub highest : (x : Note) → Contains notes x → x.number ≤ get_or a.noted x.region 0
  pub oldest : (r : ℕ) (f : List ℕ) → IsFirstAbove notes r f (flushed_at a r f) (oldest_at a r f)
  pub since : (r : ℕ) (f : List ℕ) → 0 < get_or a.flushing r 0 → IsFirstAbove notes r f (get_or a.flushing r 0) (since_at a r f)

-- what it has of noted numbers stays
abbrev pub KeepsNoted : (old new : Accounts) → Type 0
KeepsNoted old new = (notes : List Note) → HasNoted old notes → HasNoted new notes

-- the note is of this number of the region, and of these families, whatever their order
pub record AreNotedAs (fs : List (List ℕ)) (r n : ℕ) (x : Note) : Type 0 where
  pub region : x.region ≡ r
  pub number : x.number ≡ n
  pub families : (f : List ℕ) → has_family x.families f ≡ has_family fs f
