use Rattle.std.proofs.Common.{◌≡◌, ◌≤◌, ◌+◌, length}
use Rattle.script_model.specs.Script.{first_wrong, said_by}
use Rattle.script_model.specs.Text.{lines_of}
use Rattle.script_text.proofs.walk.all_lines.Given as goal

-- what is wrong in all is what is wrong in the rest, and what all say the rest says on
abbrev pub invariant-loop-rest : goal.invariant-loop-rest
invariant-loop-rest l = record {
  wrong : first_wrong l.fn.command 1 l.initial.state (lines_of l.fn.text) ≡ first_wrong l.fn.command l.n l.state (lines_of l.rest);
  says : said_by l.initial.state (lines_of l.fn.text) ≡ said_by l.state (lines_of l.rest);
  count : l.n + length l.rest ≤ 1 + length l.fn.text;
}

abbrev pub decreases-loop-rest : goal.decreases-loop-rest
decreases-loop-rest l = length l.rest
