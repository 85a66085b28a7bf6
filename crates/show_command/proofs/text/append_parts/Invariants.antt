use Rattle.std.proofs.Common.{◌≡◌, ◌+◌, ◌++◌, length}
use Rattle.std.specs.Vec.Iter.{into_iter_items}
use Rattle.show_command.specs.Regions.{parts_from}
use Rattle.show_command.proofs.text.append_parts.Given as goal

abbrev pub invariant-loop-cells : goal.invariant-loop-cells
invariant-loop-cells l = record {
  text : l.out.items ≡ l.initial.out.items ++ parts_from 1 l.yielded;
  region : l.region ≡ 1 + length l.yielded;
  count : length l.yielded + length (into_iter_items l.cells-iterator) ≡ 64;
}
