-- Marks by region, of which one region's are changed.
use Rattle.std.specs.Prelude.{◌≡◌, ℕ, List, [], get_or, slice_set}
use Rattle.seq_accounting.specs.Marks.{FamilyMark, IsPut, ArePoured}
use Rattle.seq_accounting.specs.Branch.{Branch}

-- one mark was put into the marks of a region
pub record IsPutAt (old new : List (List FamilyMark)) (r : ℕ) (mark : Branch) : Type 0 where
  pub now : List FamilyMark
  pub set : new ≡ slice_set old r now
  pub put : IsPut (get_or old r []) now mark.region mark.family mark.number

-- these marks were poured into the marks of a region
pub record IsPouredAt (old new : List (List FamilyMark)) (r : ℕ) (ms : List FamilyMark) : Type 0 where
  pub now : List FamilyMark
  pub set : new ≡ slice_set old r now
  pub poured : ArePoured (get_or old r []) now ms
