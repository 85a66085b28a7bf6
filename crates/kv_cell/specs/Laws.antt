-- What the definitions of spellings promise.
use Rattle.std.specs.Prelude.{◌≡◌, ℕ, ◌<◌, ◌≤◌, List, ◌++◌, length, take, slice_index, None}
use Rattle.byteorder.specs.Endian.{big_bytes, big_number}
use Rattle.cell_model.specs.Cell.{Cell, HasForm, spelled, Fronts, fault_of}
use Rattle.cell_model.specs.declared.form.Form.{Form}
use Rattle.cell_model.specs.Lists.{IsPrefix}

-- two cells that bytes front in one form are one
abbrev pub OneCellAtAFront : Type 0
OneCellAtAFront = (form : Form) (bytes : List ℕ) (c d : Cell) → Fronts form bytes c → Fronts form bytes d → c ≡ d

abbrev pub NoSpellingBeginsAnother : Type 0
NoSpellingBeginsAnother = (form : Form) (c d : Cell) → HasForm form c → HasForm form d → IsPrefix (spelled form c) (spelled form d) → c ≡ d

-- whatever follows a spelling, nothing is wrong, and no other cell is read
abbrev pub IsReadAgain : Type 0
IsReadAgain = (form : Form) (c : Cell) (rest : List ℕ) → HasForm form c
    → (fault_of form (spelled form c ++ rest) ≡ None) × ((d : Cell) → Fronts form (spelled form c ++ rest) d → d ≡ c)

-- each is a byte
abbrev pub AreBytes : List ℕ → Type 0
AreBytes bytes = (i : ℕ) → slice_index bytes i < 256

-- written again, the number that n bytes spell is those bytes
abbrev pub AreTheBytesRead : ℕ → Type 0
AreTheBytesRead n = (bytes : List ℕ) → n ≤ length bytes → AreBytes bytes → big_bytes n (big_number n bytes) ≡ take n bytes
