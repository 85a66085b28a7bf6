use Rattle.std.proofs.Common.{◌≡◌, ◌++◌}
use Rattle.std.specs.Vec.Iter.{into_iter_items}
use Rattle.wal_split.proofs.Gathering.{Going}
use Rattle.wal_split.proofs.gathered.gather.Given as goal

abbrev pub invariant-loop-x : goal.invariant-loop-x
invariant-loop-x l = record {
  so_far : Going l.yielded l.flushed l.region l.number l.found.logged.items l.found.kept.items;
  rest : l.yielded ++ into_iter_items l.x-iterator ≡ l.fn.entries.items;
}
