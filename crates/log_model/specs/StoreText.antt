-- The text of a store file: the cells of a region, or of one family of it, that were flushed, in order.
use Rattle.std.specs.Prelude.{◌≡◌, ◌≢◌, ℕ, ◌+◌, ◌-◌, ◌<◌, ◌≤◌, ◌^◌, Bool, not, ◌&&◌, ◌||◌, ◌==◌, if◌then◌else◌, nat_lt, nat_le, List, [], ◌∷◌, ◌++◌, length, take, drop, slice_index, slice_range, Option, Some, None}
use Rattle.std.specs.List.{flat_map, AllByRecursion}
use Rattle.byteorder.specs.Endian.{big_bytes}
use Rattle.cell_model.specs.Cell.{IsCell, HasForm, spelled, number_at, first_fault}
use Rattle.cell_model.specs.declared.form.Form.{Form}
use Rattle.cell_model.specs.declared.form.Form.TheVariants.{Plain, Tagged}
use Rattle.cell_model.specs.Order.{NumberedCell}
use Rattle.cell_model.specs.Merge.{IsRising}
use Rattle.log_model.specs.declared.format.TheConstants.{OPEN_GATE}

-- the cells of a region with sequence ids from one to another; of one family alone, where that isn't empty; a store of
-- the scope 1 stands in the place of the region's stores with lower numbers
pub record Store : Type 0 where
  pub region : ℕ
  pub scope : ℕ
  pub family : List ℕ
  pub from : ℕ
  pub to : ℕ
  pub cells : List NumberedCell

pub record IsStoredCell (s : Store) (x : NumberedCell) : Type 0 where
  pub cell : IsCell x.1
  pub family : s.family ≢ [] → x.1.family ≡ s.family
  pub from : s.from ≤ x.0
  pub to : x.0 ≤ s.to

pub record IsStore (s : Store) : Type 0 where
  pub region : s.region < 2 ^ 32
  pub scope : s.scope ≤ 1
  pub family : length s.family ≤ 127
  pub whole : s.scope ≡ 1 → s.family ≡ []
  pub from : 1 ≤ s.from
  pub to : s.from ≤ s.to
  pub limit : s.to < 2 ^ 48
  pub each : AllByRecursion (IsStoredCell s) s.cells
  pub rising : IsRising s.cells

-- ---- the bytes: `HWS2` has scope, family and tags, and `HWS1` has none of them

-- `HWS1` or `HWS2`
abbrev pub magic : Form → List ℕ
magic Plain = 72 ∷ 87 ∷ 83 ∷ 49 ∷ []
magic Tagged = 72 ∷ 87 ∷ 83 ∷ 50 ∷ []

abbrev pub scope_text : Form → Store → List ℕ
scope_text Plain s = []
scope_text Tagged s = s.scope ∷ (length s.family ∷ s.family)

-- each cell with its sequence id in front
abbrev pub pairs_text : Form → List NumberedCell → List ℕ
pairs_text form cells = flat_map (λ x. big_bytes 8 x.0 ++ spelled form x.1) cells

-- the magic word after an open gate, the region, scope and family, the two sequence ids, the count, and the cells
unfoldable pub store_text : Form → Store → List ℕ
store_text form s = OPEN_GATE ∷ (magic form ++ (big_bytes 4 s.region ++ (scope_text form s ++ (big_bytes 8 s.from ++ (big_bytes 8 s.to ++ (big_bytes 8 (length s.cells)
    ++ pairs_text form s.cells))))))

-- a store that has this text: the plain one only a store of the scope 0, without a family and without tags has
pub record FitsForm (form : Form) (s : Store) : Type 0 where
  pub scope : form ≡ Plain → s.scope ≡ 0
  pub family : form ≡ Plain → s.family ≡ []
  pub each : AllByRecursion (λ x. HasForm form x.1) s.cells

-- a file of at most one byte, or with a closed gate, isn't there
abbrev pub IsThere : List ℕ → Type 0
IsThere bytes = (1 < length bytes) × (take 1 bytes ≡ OPEN_GATE ∷ [])

pub record IsStoreText (r : ℕ) (bytes : List ℕ) (s : Store) : Type 0 where
  pub store : IsStore s
  pub region : s.region ≡ r
  pub form : Form
  pub fits : FitsForm form s
  pub is : bytes ≡ store_text form s

-- ---- damage

-- what the bytes say of their form, of their family, and where the two sequence ids stand
abbrev pub word_of : Form → ℕ
word_of form = number_at 0 4 (magic form)

unfoldable pub form_at : List ℕ → Form
form_at bytes = if number_at 1 4 bytes == word_of Tagged then Tagged else Plain

abbrev pub family_in : Form → List ℕ → List ℕ
family_in Plain bytes = []
family_in Tagged bytes = slice_range bytes 11 (11 + slice_index bytes 10)

abbrev pub numbers_in : Form → List ℕ → ℕ
numbers_in Plain bytes = 9
numbers_in Tagged bytes = 11 + slice_index bytes 10

-- what may be wrong with the scope and the family, from the left
abbrev pub scope_faults : Form → (n scope family : ℕ) → List (Bool × ℕ)
scope_faults Plain n scope family = []
scope_faults Tagged n scope family =
    (nat_lt n 10 || nat_lt 1 scope, 9)
    ∷ (nat_lt n 11 || nat_lt 127 family || (scope == 1 && not (family == 0)), 10)
    ∷ (nat_lt n (11 + family), 11)
    ∷ []

-- What may be wrong with the fields of a store of this region that is there, from the left, with their offsets, where
-- the two sequence ids stand at `at`. A field is wrong too where the n bytes end in it.
abbrev pub field_faults : Form → (r n at : ℕ) → List ℕ → List (Bool × ℕ)
field_faults form r n at bytes =
    let from = number_at at 8 bytes in
    let to = number_at (at + 8) 8 bytes in
    (nat_lt n 5 || not (number_at 1 4 bytes == word_of form), 1)
    ∷ (nat_lt n 9 || not (number_at 5 4 bytes == r), 5)
    ∷ (scope_faults form n (slice_index bytes 9) (slice_index bytes 10)
    ++ ((nat_lt n (at + 8) || from == 0 || (nat_le (at + 16) n && nat_lt to from), at)
    ∷ (nat_lt n (at + 16) || nat_lt (2 ^ 48 - 1) to, at + 8)
    ∷ (nat_lt n (at + 24), at + 16)
    ∷ []))

unfoldable pub field_fault : ℕ → List ℕ → Option ℕ
field_fault r bytes = first_fault (field_faults (form_at bytes) r (length bytes) (numbers_in (form_at bytes) bytes) bytes)

-- a cell that may stand in a store of this family with sequence ids from one to another
pub record IsPair (form : Form) (family : List ℕ) (from to : ℕ) (x : NumberedCell) : Type 0 where
  pub cell : HasForm form x.1
  pub family_is : family ≢ [] → x.1.family ≡ family
  pub low : from ≤ x.0
  pub high : x.0 ≤ to

-- after fields of this form these cells stand, in order and in range
pub record StandsAs (form : Form) (bytes : List ℕ) (cells : List NumberedCell) (rest : List ℕ) : Type 0 where
  pub is : drop (numbers_in form bytes + 24) bytes ≡ pairs_text form cells ++ rest
  pub each : AllByRecursion (IsPair form (family_in form bytes) (number_at (numbers_in form bytes) 8 bytes) (number_at (numbers_in form bytes + 8) 8 bytes)) cells
  pub rising : IsRising cells

abbrev pub StandsCells : List ℕ → List NumberedCell → List ℕ → Type 0
StandsCells bytes cells rest = StandsAs (form_at bytes) bytes cells rest

-- how many cells the bytes say, and the place after these cells
abbrev pub count_in : Form → List ℕ → ℕ
count_in form bytes = number_at (numbers_in form bytes + 16) 8 bytes

abbrev pub place_in : Form → List ℕ → List NumberedCell → ℕ
place_in form bytes cells = numbers_in form bytes + 24 + length (pairs_text form cells)

-- a store that is there and no text is damaged at its first wrong field, at the first pair that is wrong or not whole,
-- or at the first byte after the last pair
pub data IsStoreDamaged (r : ℕ) (bytes : List ℕ) (at : ℕ) : Type 0 where
  Field : IsThere bytes → field_fault r bytes ≡ Some at → IsStoreDamaged r bytes at
  Pair : IsThere bytes → field_fault r bytes ≡ None → (cells : List NumberedCell) (rest : List ℕ) → StandsCells bytes cells rest → length cells < count_in (form_at bytes) bytes
      → ((next : NumberedCell) (more : List ℕ) → StandsCells bytes (cells ++ next ∷ []) more → ⊥) → at ≡ place_in (form_at bytes) bytes cells → IsStoreDamaged r bytes at
  Behind : IsThere bytes → field_fault r bytes ≡ None → (cells : List NumberedCell) (rest : List ℕ) → StandsCells bytes cells rest → length cells ≡ count_in (form_at bytes) bytes
      → 0 < length rest → at ≡ place_in (form_at bytes) bytes cells → IsStoreDamaged r bytes at
