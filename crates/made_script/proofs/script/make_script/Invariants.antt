use Rattle.std.proofs.Common.{◌≡◌, ◌+◌, ◌-◌, ◌++◌}
use Rattle.made_script.specs.Made.{made_handlers}
use Rattle.made_script.proofs.script.make_script.Given as goal

-- the handlers so far, and those that are left
abbrev pub invariant-loop-before : goal.invariant-loop-before
invariant-loop-before l = l.lists.items ++ made_handlers l.options (l.options.handlers - l.before) (l.before + 1) ≡ made_handlers l.options l.options.handlers 1
