-- What a line of calls says, as the definitions see it.
use Rattle.std.specs.Prelude.{ℕ, ◌≤◌}
use Rattle.region_model.specs.Calls.{Call as TheCall}
use Rattle.script_model.specs.Calls.{IsAmong}
use Rattle.script_model.specs.Tables.{Spoken as TheSpoken, Calls, Opens}
use Rattle.script_calls.specs.Calls.{call_of, is_sync}
use Rattle.script_lines.specs.declared.calls.Spoken.{Spoken}
use Rattle.script_lines.specs.declared.calls.Spoken.TheVariants as code

abbrev pub spoken : Spoken → TheSpoken
spoken (code.Calls handler call) = Calls handler (call_of call)
spoken (code.Opens handler region durability count) = Opens handler region (is_sync durability) count

-- a handler of so many calls on a region of so many
abbrev pub IsCallOf : (handlers regions handler : ℕ) → TheCall → Type 0
IsCallOf handlers regions handler call = (1 ≤ handler) × (handler ≤ handlers) × IsAmong regions call

-- so is what was spoken, and a put has from 1 to 1,024 cells
abbrev pub InRange : (handlers regions : ℕ) → Spoken → Type 0
InRange handlers regions (code.Calls handler call) = IsCallOf handlers regions handler (call_of call)
InRange handlers regions (code.Opens handler region durability count) =
    (1 ≤ handler) × (handler ≤ handlers) × (1 ≤ region) × (region ≤ regions) × (1 ≤ count) × (count ≤ 1024)
