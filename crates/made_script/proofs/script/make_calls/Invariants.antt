use Rattle.std.proofs.Common.{◌≡◌, ◌+◌, ◌-◌, ◌++◌, map}
use Rattle.script_calls.specs.Calls.{call_of}
use Rattle.made_script.specs.Made.{made_calls, calls_of}
use Rattle.made_script.proofs.script.make_calls.Given as goal

-- the calls so far, and those that are left
abbrev pub invariant-loop-before : goal.invariant-loop-before
invariant-loop-before l =
    map call_of l.calls.items ++ made_calls l.options.regions l.handler (l.options.count - l.before) (l.before + 1) l.x ≡ calls_of l.options l.handler
