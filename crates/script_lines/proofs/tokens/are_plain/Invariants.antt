use Rattle.std.proofs.Common.{◌≡◌, ℕ, ◌<◌, get_or, true}
use Rattle.script_model.specs.Text.{is_plain}
use Rattle.script_lines.proofs.tokens.are_plain.Given as goal

abbrev pub invariant-loop-b : goal.invariant-loop-b
invariant-loop-b l = (k : ℕ) → k < l.b-index → is_plain (get_or l.word k 0) ≡ true
