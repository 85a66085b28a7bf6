use Rattle.std.proofs.Common.{◌≡◌, ◌≤◌, ◌++◌, [], ◌∷◌, map, take, length}
use Rattle.std.specs.Arc.{arc_value}
use Rattle.std.specs.FinMap.{len}
use Rattle.cell_model.specs.Join.{joined}
use Rattle.mem_segments.proofs.layers.merged_parts.Given as goal

abbrev pub invariant-loop-kept : goal.invariant-loop-kept
invariant-loop-kept l = record {
  within : l.kept ≤ length l.parts;
  content : joined (map arc_value (take l.kept l.parts) ++ arc_value l.newest ∷ []) ≡ joined (map arc_value l.parts ++ arc_value l.fn.newer ∷ []);
  given : 1 ≤ len (arc_value l.newest);
}

abbrev pub decreases-loop-kept : goal.decreases-loop-kept
decreases-loop-kept l = l.kept
