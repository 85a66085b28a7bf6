-- The script that a load is made of, from a number.
use Rattle.std.specs.Prelude.{ℕ, zero, suc, ◌+◌, ◌-◌, ◌*◌, ◌/◌, ◌%◌, ◌^◌, ◌≤◌, ◌<◌, ◌==◌, ◌&&◌, if◌then◌else◌, replicate, true, List, [], ◌∷◌, None}
use Rattle.byteorder.specs.Endian.{big_bytes}
use Rattle.cell_model.specs.Batch.{batch_of}
use Rattle.cell_model.specs.Cell.{Cell}
use Rattle.region_model.specs.Calls.{Call, Put, Scan, Raw, Flush, Roll}
use Rattle.script_model.specs.Calls.{Script}
use Rattle.made_script.specs.declared.options.LoadOptions.{LoadOptions}

-- the ranges of the options
pub record AreOptions (o : LoadOptions) : Type 0 where
  pub start : o.start < 2 ^ 64
  pub some_handler : 1 ≤ o.handlers
  pub handlers_most : o.handlers ≤ 16
  pub some_region : 1 ≤ o.regions
  pub regions_most : o.regions ≤ 64
  pub some_call : 1 ≤ o.count
  pub count_most : o.count ≤ 10000

unfoldable pub next_x : ℕ → ℕ
next_x x = (6364136223846793005 * x + 1442695040888963407) % 2 ^ 64

-- the number that a handler starts from
abbrev pub first_x : (start handler : ℕ) → ℕ
first_x start handler = (start + (handler - 1)) % 2 ^ 64

abbrev pub region_for : (regions x : ℕ) → ℕ
region_for regions x = 1 + (x / 2 ^ 33) % regions

-- the rows of a scan: those that begin with the highest byte of x
abbrev pub from_row : ℕ → List ℕ
from_row x = x / 2 ^ 56 ∷ []

abbrev pub to_row : ℕ → List ℕ
to_row x = if x / 2 ^ 56 == 255 then [] else (x / 2 ^ 56 + 1) ∷ []

abbrev pub made_cell : ℕ → ℕ → Cell
made_cell i x = record { row = big_bytes 8 x; family = 102 ∷ []; qualifier = 113 ∷ []; ts = i; kind = 4; value = replicate (1 + x / 2 ^ 60) (x % 256); tags = [] }

-- call i of handler h, by its number x
unfoldable pub made_call : (regions h i x : ℕ) → Call
made_call regions h i x =
    if i % 8 == 0 then Scan Raw (region_for regions x) (from_row x) (to_row x)
    else (if i % 64 == 31 then Flush (region_for regions x) None
    else (if (h == 1) && (i % 256 == 129) then Roll
    else Put (region_for regions x) true (batch_of (made_cell i x ∷ []))))

-- so many calls from number i on, after the number x
abbrev pub made_calls : (regions h n i x : ℕ) → List Call
made_calls regions h zero i x = []
made_calls regions h (suc n) i x = made_call regions h i (next_x x) ∷ made_calls regions h n (i + 1) (next_x x)

-- the calls of a handler
abbrev pub calls_of : LoadOptions → ℕ → List Call
calls_of o h = made_calls o.regions h o.count 1 (first_x o.start h)

-- so many handlers from h on
abbrev pub made_handlers : LoadOptions → ℕ → ℕ → List (List Call)
made_handlers o zero h = []
made_handlers o (suc n) h = calls_of o h ∷ made_handlers o n (h + 1)

abbrev pub made_script : LoadOptions → Script
made_script o = record { time = 0; regions = o.regions; handlers = made_handlers o o.handlers 1 }
