use Rattle.std.proofs.Common.{◌≡◌, ℕ, ◌+◌, ◌*◌, take, map}
use Rattle.script_calls.specs.Calls.{call_of}
use Rattle.made_script.specs.Counts.{counts_in, plus, AreUpTo}
use Rattle.made_script.proofs.counts.count_list.Given as goal

-- the calls so far
abbrev pub invariant-loop-call : goal.invariant-loop-call
invariant-loop-call l = record {
  so_far : l.counts ≡ plus l.initial.counts (counts_in (map call_of (take l.call-index l.call-items)));
  most : (n : ℕ) → AreUpTo n l.initial.counts → AreUpTo (n + l.call-index * 1048576) l.counts;
}
