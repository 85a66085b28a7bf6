-- How many calls of each kind a script has, and how many bytes the values of its puts have together.
use Rattle.std.specs.Prelude.{ℕ, ◌+◌, ◌≤◌, Bool, true, false, List, length, sum_by, count_by}
use Rattle.std.specs.List.{flat_map}
use Rattle.cell_model.specs.Cell.{Cell}
use Rattle.region_model.specs.Calls.{Call, Put, Scan, Flush, Roll}
use Rattle.script_model.specs.Calls.{Script}
use Rattle.made_script.specs.declared.counts.CallCounts.{CallCounts}

abbrev pub is_put : Call → Bool
is_put (Put region sync batch) = true
is_put _ = false

-- a scan or a get
abbrev pub is_scan : Call → Bool
is_scan (Scan view region from to) = true
is_scan _ = false

abbrev pub is_flush : Call → Bool
is_flush (Flush region family) = true
is_flush _ = false

abbrev pub is_roll : Call → Bool
is_roll Roll = true
is_roll _ = false

abbrev pub value_length : Cell → ℕ
value_length c = length c.value

abbrev pub values_length : Call → ℕ
values_length (Put region sync batch) = sum_by value_length batch.cells
values_length _ = 0

-- of these calls
abbrev pub counts_in : List Call → CallCounts
counts_in calls = record {
  puts = count_by is_put calls;
  scans = count_by is_scan calls;
  flushes = count_by is_flush calls;
  rolls = count_by is_roll calls;
  value_bytes = sum_by values_length calls;
}

-- of all calls of a script's handlers
abbrev pub counts_of : Script → CallCounts
counts_of script = counts_in (flat_map (λ calls. calls) script.handlers)

-- ---- how they add up

abbrev pub plus : CallCounts → CallCounts → CallCounts
plus a b = record {
  puts = a.puts + b.puts;
  scans = a.scans + b.scans;
  flushes = a.flushes + b.flushes;
  rolls = a.rolls + b.rolls;
  value_bytes = a.value_bytes + b.value_bytes;
}

-- each is at most n
pub record AreUpTo (n : ℕ) (c : CallCounts) : Type 0 where
  pub puts : c.puts ≤ n
  pub scans : c.scans ≤ n
  pub flushes : c.flushes ≤ n
  pub rolls : c.rolls ≤ n
  pub value_bytes : c.value_bytes ≤ n
