use Rattle.std.proofs.Common.{◌≡◌, ◌++◌, map, take, drop}
use Rattle.mem_segments.specs.Walk.{past}
use Rattle.mem_segments.proofs.merge_iter.pass_all.Given as goal

abbrev pub invariant-loop-rest : goal.invariant-loop-rest
invariant-loop-rest l = l.rests ≡ map (past l.least) (take l.rest-index l.fn.rests) ++ drop l.rest-index l.fn.rests
