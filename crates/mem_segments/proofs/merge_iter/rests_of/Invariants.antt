use Rattle.std.proofs.Common.{◌≡◌, map, take, option_map, Bor}
use Rattle.std.specs.Prelude.{filter}
use Rattle.std.specs.Arc.{arc_value}
use Rattle.cell_model.specs.Order.{NumberedCell, cells_of}
use Rattle.region_model.specs.Journal.{is_in_range}
use Rattle.mem_segments.specs.Walk.{to_come}
use Rattle.mem_segments.proofs.merge_iter.rests_of.Given as goal

abbrev pub invariant-loop-part : goal.invariant-loop-part
invariant-loop-part l = l.rests.items ≡ map (λ part. to_come (option_map (λ (row : Bor NumberedCell). row.now) l.last) (filter (is_in_range l.from l.to) (cells_of (arc_value part)))) (take l.part-index l.parts)
