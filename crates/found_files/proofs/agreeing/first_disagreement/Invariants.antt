use Rattle.found_files.proofs.Agreement.{Going}
use Rattle.found_files.proofs.agreeing.first_disagreement.Given as goal

abbrev pub invariant-loop-at : goal.invariant-loop-at
invariant-loop-at l = Going l.entries l.first l.at
