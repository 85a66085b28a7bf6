-- A script by its handlers, and what it asks.
use Rattle.std.specs.Prelude.{◌≡◌, ℕ, zero, suc, ◌+◌, ◌-◌, ◌^◌, ◌<◌, ◌≤◌, ◌==◌, if◌then◌else◌, List, [], ◌∷◌, ◌++◌, length, All, Option, Some, None, unwrap_or}
use Rattle.region_model.specs.Calls.{Call, Put, Scan, Flush, Roll, Reply}
use Rattle.script_model.specs.Text.{lines_of}
use Rattle.script_model.specs.Script.{Said, nothing_said, said_by, script_fault}
use Rattle.script_model.specs.declared.command.Command.{Command}

pub record Script : Type 0 where
  pub time : ℕ
  pub regions : ℕ
  -- the calls of handler 1, of handler 2, and so on
  pub handlers : List (List Call)

abbrev pub calls_of : ℕ → List (ℕ × Call) → List Call
calls_of h [] = []
calls_of h (c ∷ cs) = if c.0 == h then c.1 ∷ calls_of h cs else calls_of h cs

-- the calls of so many handlers from this one on
abbrev pub by_handler : ℕ → ℕ → List (ℕ × Call) → List (List Call)
by_handler zero h cs = []
by_handler (suc n) h cs = calls_of h cs ∷ by_handler n (h + 1) cs

abbrev pub script_of : Said → Script
script_of said = record { time = unwrap_or said.time 0; regions = unwrap_or said.regions 0; handlers = by_handler (unwrap_or said.handlers 0) 1 said.calls }

-- all families, or one with a name of a family's length
abbrev pub IsFamily : Option (List ℕ) → Type 0
IsFamily None = Unit {0}
IsFamily (Some family) = (1 ≤ length family) × (length family ≤ 127)

-- the call is on one of so many regions, and flushes all families or one with a right name
abbrev pub IsAmong : (regions : ℕ) → Call → Type 0
IsAmong regions (Put region sync batch) = (1 ≤ region) × (region ≤ regions)
IsAmong regions (Scan view region from to) = (1 ≤ region) × (region ≤ regions)
IsAmong regions (Flush region family) = (1 ≤ region) × (region ≤ regions) × IsFamily family
IsAmong regions Roll = Unit {0}

-- the limits that a script keeps
pub record IsScript (script : Script) : Type 0 where
  pub time_below : script.time < 2 ^ 63 - 1
  pub some_region : 1 ≤ script.regions
  pub regions_below : script.regions ≤ 64
  pub some_handler : 1 ≤ length script.handlers
  pub handlers_below : length script.handlers ≤ 16
  pub calls_among : All (All (IsAmong script.regions)) script.handlers
  -- no handler has more calls than a script has bytes
  pub calls_few : All (λ calls. length calls ≤ 16777216) script.handlers

-- the bytes are a right script for the command, and this is what they say
pub record Says (command : Command) (bytes : List ℕ) (script : Script) : Type 0 where
  pub right : script_fault command bytes ≡ None
  pub is : script ≡ script_of (said_by nothing_said (lines_of bytes))

-- a call with its handler and its number
pub record Asked : Type 0 where
  pub handler : ℕ
  pub number : ℕ
  pub call : Call

abbrev pub asked_of : ℕ → ℕ → List Call → List Asked
asked_of h n [] = []
asked_of h n (c ∷ cs) = record { handler = h; number = n; call = c } ∷ asked_of h (n + 1) cs

abbrev pub asked_from : ℕ → List (List Call) → List Asked
asked_from h [] = []
asked_from h (cs ∷ css) = asked_of h 1 cs ++ asked_from (h + 1) css

-- all calls, by handler and then number
abbrev pub asked : Script → List Asked
asked s = asked_from 1 s.handlers

abbrev pub asked_by : Reply → Asked
asked_by r = record { handler = r.handler; number = r.number; call = r.call }

abbrev pub from_to : ℕ → ℕ → List ℕ
from_to first zero = []
from_to first (suc n) = first ∷ from_to (first + 1) n

-- 1, 2 and so on up to n
abbrev pub upto : ℕ → List ℕ
upto n = from_to 1 n
