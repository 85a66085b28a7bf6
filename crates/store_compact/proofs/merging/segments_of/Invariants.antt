use Rattle.std.proofs.Common.{◌≡◌, map}
use Rattle.std.specs.Arc.{arc_value}
use Rattle.std.specs.FinMap.{empty}
use Rattle.std.specs.List.{AllByRecursion}
use Rattle.cell_model.specs.Cell.{IsCell}
use Rattle.cell_model.specs.Join.{joined}
use Rattle.cell_model.specs.Merge.{put_numbered}
use Rattle.region_replay.specs.Dealt.{cells_of}
use Rattle.store_compact.proofs.merging.segments_of.Given as goal

abbrev pub invariant-loop-store : goal.invariant-loop-store
invariant-loop-store l = record {
  content : joined (map arc_value l.parts.items) ≡ put_numbered empty (cells_of l.yielded);
  within : AllByRecursion (λ x. IsCell x.1) (cells_of l.yielded);
}
