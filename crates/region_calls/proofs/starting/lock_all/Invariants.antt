use Rattle.std.proofs.Common.{◌≡◌, ◌+◌, ◌≤◌, ◌++◌, length, vec_capacity}
use Rattle.std.specs.Vec.Iter.{into_iter_items, into_iter_len}
use Rattle.append_ring.specs.Parts.{AreNewAfter}
use Rattle.region_calls.specs.Named.{AreFrom}
use Rattle.region_calls.proofs.starting.lock_all.Given as goal

abbrev pub invariant-locking : goal.invariant-locking
invariant-locking g l = record {
  passes : AreNewAfter g.N.ServiceNaming.ring g.N.ServiceNaming.lasts 0 (length l.yielded) l.passes;
  all : length l.passes ≡ length l.fn.unlocked.items;
  regions : AreFrom (length l.yielded + 1) (into_iter_items l.region-iterator);
  rest : l.yielded ++ into_iter_items l.region-iterator ≡ l.fn.unlocked.items;
  count : length l.locks.items ≡ length l.yielded;
  len : into_iter_len l.region-iterator ≡ length (into_iter_items l.region-iterator);
  room : length l.fn.unlocked.items ≤ vec_capacity l.locks;
}
