use Rattle.found_files.specs.Dealt.{AreEmptyLists}
use Rattle.found_files.proofs.by_region.empty_lists.Given as goal

abbrev pub invariant-loop-count : goal.invariant-loop-count
invariant-loop-count l = AreEmptyLists l.count-index l.lists.items
