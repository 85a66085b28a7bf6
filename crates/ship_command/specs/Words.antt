-- The words of the command: a position.
use Rattle.std.specs.Prelude.{ℕ, ◌^◌, ◌-◌, ◌&&◌, nat_le, if◌then◌else◌, List, Option, Some, None}
use Rattle.chronicle_model.specs.Chronicle.{Position}
use Rattle.script_model.specs.Text.{is_number, number_of}

-- the number that a word is, where it lies between these two or is one of them
abbrev pub number_within : ℕ → ℕ → List ℕ → Option ℕ
number_within least most word =
    if is_number word && (nat_le least (number_of word) && nat_le (number_of word) most) then Some (number_of word) else None

abbrev pub position_from : Option ℕ → Option ℕ → Option Position
position_from (Some file) (Some entries) = Some (record { file = file; entries = entries })
position_from (Some file) None = None
position_from None entries = None

-- a log from 1 to 2^63, and how many of its entries, fewer than 2^63, stand before the position
abbrev pub position_word : List ℕ → List ℕ → Option Position
position_word file entries = position_from (number_within 1 (2 ^ 63) file) (number_within 0 (2 ^ 63 - 1) entries)
