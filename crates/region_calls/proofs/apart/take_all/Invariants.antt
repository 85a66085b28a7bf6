use Rattle.std.proofs.Common.{◌≡◌, ℕ, ◌<◌, ◌≤◌, ◌++◌, length, map, Some, None, slice_get, vec_capacity}
use Rattle.std.specs.Vec.Iter.{into_iter_items, into_iter_len}
use Rattle.pass_calls.specs.log_service.Places.{ServiceId}
use Rattle.region_calls.specs.Closes.{IsTaken}
use Rattle.region_calls.specs.Deals.{AllOf}
use Rattle.region_calls.specs.Passes.{knows}
use Rattle.region_calls.specs.declared.apart.Taken.{Taken}
use Rattle.region_calls.proofs.apart.take_all.Given as goal

abbrev pub invariant-taking : goal.invariant-taking
invariant-taking g l = record {
  known : map knows l.passes.items ≡ map knows l.fn.passes.items;
  of : (the : ServiceId) → AllOf the l.fn.passes.items → AllOf the l.passes.items;
  taken : (k : ℕ) (t : Taken) → slice_get l.taken.items k ≡ Some t → IsTaken g.N.VersionsNaming.region_base g.N.LockNaming.handlers g.N.ServiceNaming.ring (map knows l.fn.passes.items) l.places k t.base t.lines.items;
  out : (j : ℕ) → length l.yielded ≤ j → j < length l.places → slice_get l.places j ≡ Some None;
  all : length l.places ≡ length l.fn.regions.items;
  rest : l.yielded ++ into_iter_items l.lock-iterator ≡ l.fn.regions.items;
  place : l.place ≡ length l.yielded;
  count : length l.taken.items ≡ length l.yielded;
  len : into_iter_len l.lock-iterator ≡ length (into_iter_items l.lock-iterator);
  room : length l.fn.regions.items ≤ vec_capacity l.taken;
}
