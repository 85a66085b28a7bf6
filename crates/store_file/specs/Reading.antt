-- The parts of a store file's text, as they are read.
use Rattle.std.specs.Prelude.{◌≡◌, ◌≢◌, ℕ, ◌+◌, ◌-◌, ◌<◌, ◌≤◌, ◌^◌, Bool, ◌&&◌, ◌||◌, ◌==◌, nat_lt, nat_le, List, [], ◌∷◌, ◌++◌, length, drop, slice_index, Option, None}
use Rattle.byteorder.specs.Endian.{big_bytes}
use Rattle.cell_model.specs.Cell.{HasForm, spelled, number_at, first_fault}
use Rattle.cell_model.specs.declared.form.Form.{Form}
use Rattle.cell_model.specs.declared.form.Form.TheVariants.{Plain, Tagged}
use Rattle.cell_model.specs.Order.{NumberedCell}
use Rattle.log_model.specs.StoreText.{StandsAs, word_of, form_at, family_in, numbers_in, count_in, field_fault}

-- the scope and the family that the bytes tell, with the family's length
abbrev pub TellsScope : Form → List ℕ → ℕ → List ℕ → Type 0
TellsScope Plain bytes scope family = (scope ≡ 0) × (family ≡ [])
TellsScope Tagged bytes scope family = (scope ≡ slice_index bytes 9) × (length family ≡ slice_index bytes 10) × (family ≡ family_in Tagged bytes)

-- the word after the gate is that of this form, the region is this one, and scope and family are right
pub record IsHead (form : Form) (region : ℕ) (bytes : List ℕ) (scope : ℕ) (family : List ℕ) : Type 0 where
  pub form_is : form_at bytes ≡ form
  pub word : number_at 1 4 bytes ≡ word_of form
  pub region_is : number_at 5 4 bytes ≡ region
  pub told : TellsScope form bytes scope family
  pub scope_limit : scope ≤ 1
  pub short : length family ≤ 127
  pub whole : scope ≡ 1 → family ≡ []

-- the two sequence ids and the count that stand from a place on, which are right
pub record AreNumbers (bytes : List ℕ) (at from to count : ℕ) : Type 0 where
  pub whole : at + 24 ≤ length bytes
  pub from_is : from ≡ number_at at 8 bytes
  pub to_is : to ≡ number_at (at + 8) 8 bytes
  pub count_is : count ≡ number_at (at + 16) 8 bytes
  pub given : 1 ≤ from
  pub order : from ≤ to
  pub limit : to < 2 ^ 48

-- what may be wrong with them in n bytes, from the left
abbrev pub number_faults : (n at from to : ℕ) → List (Bool × ℕ)
number_faults n at from to =
    (nat_lt n (at + 8) || from == 0 || (nat_le (at + 16) n && nat_lt to from), at)
    ∷ (nat_lt n (at + 16) || nat_lt (2 ^ 48 - 1) to, at + 8)
    ∷ (nat_lt n (at + 24), at + 16)
    ∷ []

abbrev pub numbers_fault : List ℕ → ℕ → Option ℕ
numbers_fault bytes at = first_fault (number_faults (length bytes) at (number_at at 8 bytes) (number_at (at + 8) 8 bytes))

-- those of a store of this form
abbrev pub AreFields : Form → List ℕ → (from to count : ℕ) → Type 0
AreFields form bytes from to count = AreNumbers bytes (numbers_in form bytes) from to count

-- no field is wrong, and these are what the fields tell
pub record AreRead (form : Form) (region : ℕ) (bytes : List ℕ) (scope : ℕ) (family : List ℕ) (at from to count : ℕ) : Type 0 where
  pub right : field_fault region bytes ≡ None
  pub head : IsHead form region bytes scope family
  pub place : at ≡ numbers_in form bytes
  pub fields : AreFields form bytes from to count

-- bytes begin with a sequence id between the two and a cell of the family, and these follow
pub record FrontsPair (form : Form) (family : List ℕ) (from to : ℕ) (bytes : List ℕ) (x : NumberedCell) (rest : List ℕ) : Type 0 where
  pub cell : HasForm form x.1
  pub family_is : family ≢ [] → x.1.family ≡ family
  pub from_le : from ≤ x.0
  pub to_le : x.0 ≤ to
  pub is : bytes ≡ (big_bytes 8 x.0 ++ spelled form x.1) ++ rest

-- these cells stand up to a place of the bytes
pub record StandsUpTo (form : Form) (bytes : List ℕ) (cells : List NumberedCell) (at : ℕ) : Type 0 where
  pub within : at ≤ length bytes
  pub stands : StandsAs form bytes cells (drop at bytes)

-- no further cell stands after these
abbrev pub NoneIsNext : Form → List ℕ → List NumberedCell → Type 0
NoneIsNext form bytes cells = (next : NumberedCell) (more : List ℕ) → StandsAs form bytes (cells ++ next ∷ []) more → ⊥

-- fewer cells stand than are counted, up to this place
pub record LacksPair (form : Form) (bytes : List ℕ) (at : ℕ) : Type 0 where
  pub cells : List NumberedCell
  pub stands : StandsUpTo form bytes cells at
  pub fewer : length cells < count_in form bytes
  pub none : NoneIsNext form bytes cells
