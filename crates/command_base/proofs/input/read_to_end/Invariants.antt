use Rattle.std.proofs.Common.{IsTrue, ◌-◌, ◌≤◌, vec_len}
use Rattle.command_base.proofs.Going.{Reading}
use Rattle.command_base.proofs.input.read_to_end.Given as goal

abbrev pub invariant-loop-text : goal.invariant-loop-text
invariant-loop-text g l = Reading (IsTrue g.S.Source.told) g.S.Source.left g.S.Source.faults l.initial.source l.source l.text.items × (vec_len l.text ≤ 16777217)

abbrev pub decreases-loop-text : goal.decreases-loop-text
decreases-loop-text g l = 16777217 - vec_len l.text
