use Rattle.std.proofs.Common.{◌≡◌, ℕ, ◌≤◌, ◌++◌, length, Some, slice_get, vec_capacity}
use Rattle.std.specs.Vec.Iter.{into_iter_items, into_iter_len}
use Rattle.region_calls.specs.Wordings.{IsWorded}
use Rattle.region_calls.specs.declared.apart.Taken.{Taken}
use Rattle.region_calls.specs.declared.closed.ClosedRegion.{ClosedRegion}
use Rattle.region_calls.proofs.wording.word_all.Given as goal

abbrev pub invariant-wording : goal.invariant-wording
invariant-wording g l = record {
  each : (k : ℕ) (c : ClosedRegion) → slice_get l.worded.items k ≡ Some c → (t : Taken) × (slice_get l.fn.taken.items k ≡ Some t) × IsWorded (length l.fn.taken.items) l.fn.words k t.base t.lines.items c;
  rest : l.yielded ++ into_iter_items l.one-iterator ≡ l.fn.taken.items;
  count : length l.worded.items ≡ length l.yielded;
  len : into_iter_len l.one-iterator ≡ length (into_iter_items l.one-iterator);
  room : length l.fn.taken.items ≤ vec_capacity l.worded;
}
