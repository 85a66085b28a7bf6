-- The causes for which a script is refused, and the fields of a line with the checks of each.
use Rattle.std.specs.Prelude.{ℕ, ◌+◌, ◌-◌, ◌^◌, Bool, true, false, ◌&&◌, ◌||◌, ◌==◌, not, nat_lt, nat_le, nat_eq, if◌then◌else◌, List, [], ◌∷◌, ◌++◌, length, Option, Some, None, is_none, unwrap_or, codes}
use Rattle.std.specs.Cmp.Lexicographic.{pointwise}
use Rattle.cell_model.specs.Cell.{Cell, is_kind}
use Rattle.cell_model.specs.Batch.{Batch, body_length}
use Rattle.script_model.specs.Text.{is_number, number_of, token_of}
use Rattle.script_model.specs.declared.command.Command.{Command}
use Rattle.script_model.specs.declared.command.Command.TheVariants.{Log, Run, Groups}

-- the causes: word 1, number 2, token 3, region 4, handler 5, count 6, too-long 7, a cell's 8 with its number,
-- not-here 9, entry-length 10, table-length 12
pub record Why : Type 0 where
  pub cause : ℕ
  pub limit : ℕ

abbrev pub why : ℕ → Why
why cause = record { cause = cause; limit = 0 }

abbrev pub cell_why : ℕ → Why
cell_why limit = record { cause = 8; limit = limit }

-- how a cause is printed
abbrev pub why_name : Why → List ℕ
why_name y =
    if y.cause == 1 then codes "word" else (if y.cause == 2 then codes "number" else (if y.cause == 3 then codes "token"
    else (if y.cause == 4 then codes "region" else (if y.cause == 5 then codes "handler" else (if y.cause == 6 then codes "count"
    else (if y.cause == 7 then codes "too-long" else (if y.cause == 8 then codes "cell-" ++ (48 + y.limit) ∷ []
    else (if y.cause == 9 then codes "not-here" else (if y.cause == 12 then codes "table-length" else codes "entry-length")))))))))

-- the first line of a table that applies
abbrev pub first_why : List (Bool × Why) → Option Why
first_why [] = None
first_why (line ∷ lines) = if line.0 then Some line.1 else first_why lines

-- the first of the two
abbrev pub first_of : Option Why → Option Why → Option Why
first_of None later = later
first_of (Some y) later = Some y

-- ---- what a field says

abbrev pub is : List ℕ → List ℕ → Bool
is word name = pointwise nat_eq word name

abbrev pub has_no_token : List ℕ → Bool
has_no_token word = is_none (token_of word)

abbrev pub bytes_of : List ℕ → List ℕ
bytes_of word = unwrap_or (token_of word) []

abbrev pub is_out : ℕ → ℕ → ℕ → Bool
is_out low high n = nat_lt n low || nat_lt high n

-- the code of a kind's name, or 0
abbrev pub code_of : List ℕ → ℕ
code_of word =
    if is word (codes "put") then 4 else (if is word (codes "delete") then 8 else (if is word (codes "delete-family-version") then 10
    else (if is word (codes "delete-column") then 12 else (if is word (codes "delete-family") then 14 else 0))))

-- `now` and 2 ^ 63 - 1 stand for the time of the script
abbrev pub ts_of : ℕ → List ℕ → ℕ
ts_of time word = if is word (codes "now") then time else (if number_of word == 2 ^ 63 - 1 then time else number_of word)

abbrev pub cell_of : ℕ → (row family qualifier ts kind value : List ℕ) → Cell
cell_of time row family qualifier ts kind value =
    record { row = bytes_of row; family = bytes_of family; qualifier = bytes_of qualifier; ts = ts_of time ts; kind = code_of kind; value = bytes_of value; tags = [] }

abbrev pub tagged_with : Cell → List ℕ → Cell
tagged_with cell tags = record cell { tags = bytes_of tags }

-- ---- what is wrong with a field

-- a number from low to high: one out of range has its own cause
unfoldable pub number_fault : (low high : ℕ) (out : Why) → List ℕ → Option Why
number_fault low high out word = first_why ((not (is_number word), why 2) ∷ (is_out low high (number_of word), out) ∷ [])

unfoldable pub token_fault : List ℕ → Option Why
token_fault word = first_why ((has_no_token word, why 3) ∷ [])

-- a token of low to high bytes, which a cell's limit of that number asks for
unfoldable pub sized_fault : (limit low high : ℕ) → List ℕ → Option Why
sized_fault limit low high word = first_why ((has_no_token word, why 3) ∷ (is_out low high (length (bytes_of word)), cell_why limit) ∷ [])

unfoldable pub ts_fault : ℕ → List ℕ → Option Why
ts_fault time word = first_why ((not (is word (codes "now") || is_number word), why 2) ∷ (nat_le (2 ^ 63) (ts_of time word), cell_why 5) ∷ [])

unfoldable pub kind_fault : List ℕ → Option Why
kind_fault word = first_why ((not (is_kind (code_of word)), cell_why 6) ∷ [])

abbrev pub one_more : Batch → Cell → Batch
one_more batch cell = record batch { cells = batch.cells ++ cell ∷ [] }

-- with this cell after those so far the entry's body is too long
unfoldable pub room_fault : Batch → Cell → Option Why
room_fault batch cell = first_why ((nat_lt 1048576 (body_length (one_more batch cell)), why 10) ∷ [])

-- a name of a table, of 1 to 255 bytes
unfoldable pub table_name_fault : List ℕ → Option Why
table_name_fault word = first_why ((has_no_token word, why 3) ∷ (is_out 1 255 (length (bytes_of word)), why 12) ∷ [])

unfoldable pub mode_fault : List ℕ → Option Why
mode_fault word = first_why ((not (is word (codes "sync") || is word (codes "async")), why 1) ∷ [])

-- ---- what `log` does not take, and a run on several logs

abbrev pub is_log : Command → Bool
is_log Log = true
is_log Run = false
is_log Groups = false

abbrev pub has_gets : Command → Bool
has_gets Log = false
has_gets Run = true
has_gets Groups = false

-- any call but a put, the name of a table, and tags
unfoldable pub here_fault : Command → Option Why
here_fault command = first_why ((is_log command, why 9) ∷ [])

-- a get
unfoldable pub get_here_fault : Command → Option Why
get_here_fault command = first_why ((not (has_gets command), why 9) ∷ [])

-- more than one region or handler
unfoldable pub one_here_fault : Command → ℕ → Option Why
one_here_fault command count = first_why ((is_log command && not (count == 1), why 9) ∷ [])

-- a put that does not wait
unfoldable pub mode_here_fault : Command → List ℕ → Option Why
mode_here_fault command word = first_why ((is_log command && not (is word (codes "sync")), why 9) ∷ [])

-- a cell that deletes
unfoldable pub kind_here_fault : Command → List ℕ → Option Why
kind_here_fault command word = first_why ((is_log command && not (code_of word == 4), why 9) ∷ [])
