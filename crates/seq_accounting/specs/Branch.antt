-- Marks in a tree: where each stands.
use Rattle.std.specs.Prelude.{◌≡◌, ℕ, suc, ◌+◌, ◌-◌, ◌/◌, ◌%◌, ◌^◌, Bool, true, ◌&&◌, ◌==◌, not, nat_lt, if◌then◌else◌, List, [], ◌∷◌, length, slice_index, Option, Some, None}
use Rattle.std.specs.Global.{Box}
use Rattle.seq_accounting.specs.Marks.{FamilyMark, is_of, all_keys}

-- a mark, and those below it
pub record Branch : Type 0 where
  pub region : ℕ
  pub family : List ℕ
  pub number : ℕ
  pub below : List FamilyMark

-- with those below it
abbrev pub marks_of : Branch → List FamilyMark
marks_of b = record { region = b.region; family = b.family; number = b.number } ∷ b.below

abbrev pub linked : Option (Box Branch) → List FamilyMark
linked None = []
linked (Some b) = marks_of b.value

abbrev pub is_odd : ℕ → Bool
is_odd n = n % 2 == 1

-- a bit of a family of a region: those of the family, its last byte first, and then those of the region
unfoldable pub bit_of : ℕ → List ℕ → ℕ → Bool
bit_of r f bit = if nat_lt (bit / 8) (length f) then is_odd (slice_index f (length f - 1 - bit / 8) / 2 ^ (bit % 8)) else is_odd (r / 2 ^ (bit % 8))

-- stands left, or right, below a mark of another family of a region that parts by this bit
abbrev pub is_left : ℕ → List ℕ → ℕ → ℕ → List ℕ → Bool
is_left r f bit q g = not (is_of r f q g) && not (bit_of q g bit)

abbrev pub is_right : ℕ → List ℕ → ℕ → ℕ → List ℕ → Bool
is_right r f bit q g = not (is_of r f q g) && bit_of q g bit

-- those below a mark are of other families or regions, and parted by a bit
pub record IsParted (r : ℕ) (f : List ℕ) (bit : ℕ) (ls rs : List FamilyMark) : Type 0 where
  pub left : all_keys (is_left r f bit) ls ≡ true
  pub right : all_keys (is_right r f bit) rs ≡ true
