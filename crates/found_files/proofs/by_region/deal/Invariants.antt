use Rattle.found_files.specs.Dealt.{AreDealt}
use Rattle.found_files.proofs.by_region.deal.Given as goal

abbrev pub invariant-loop-entry : goal.invariant-loop-entry
invariant-loop-entry l = AreDealt l.yielded l.lists.items
