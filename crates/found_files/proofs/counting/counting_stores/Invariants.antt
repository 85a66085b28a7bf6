use Rattle.std.proofs.Common.{◌≡◌, ◌++◌, length}
use Rattle.std.specs.Vec.Iter.{into_iter_items, into_iter_len}
use Rattle.found_files.specs.Counting.{counting_among}
use Rattle.found_files.proofs.counting.counting_stores.Given as goal

abbrev pub invariant-loop-store : goal.invariant-loop-store
invariant-loop-store l = record {
  is : l.counting.items ≡ counting_among l.first.items l.yielded;
  rest : l.yielded ++ into_iter_items l.store-iterator ≡ l.fn.stores.items;
  len : into_iter_len l.store-iterator ≡ length (into_iter_items l.store-iterator);
}
