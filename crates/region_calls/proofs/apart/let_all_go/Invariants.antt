use Rattle.std.proofs.Common.{◌≡◌, ℕ, ◌<◌, ◌≤◌, ◌++◌, List, length, map, Some, None, slice_get, slice_index}
use Rattle.std.specs.Vec.Iter.{into_iter_items, into_iter_len}
use Rattle.pass_calls.specs.log_service.Places.{ServiceId}
use Rattle.region_model.specs.Journal.{Base}
use Rattle.region_model.specs.Lines.{Line}
use Rattle.region_calls.specs.Closes.{IsTaken}
use Rattle.region_calls.specs.Deals.{AllOf}
use Rattle.region_calls.specs.Passes.{knows}
use Rattle.region_calls.proofs.apart.let_all_go.Given as goal

abbrev pub invariant-letting : goal.invariant-letting
invariant-letting g l = record {
  known : map knows l.passes.items ≡ map knows l.fn.passes.items;
  of : (the : ServiceId) → AllOf the l.fn.passes.items → AllOf the l.passes.items;
  taken : (k : ℕ) → k < length l.yielded
      → (base : Base) × (xs : List Line) × IsTaken g.N.VersionsNaming.region_base g.N.LockNaming.handlers g.N.ServiceNaming.ring (map knows l.fn.passes.items) l.places k base xs × (slice_index l.lasts k ≡ base.last);
  out : (j : ℕ) → length l.yielded ≤ j → j < length l.places → slice_get l.places j ≡ Some None;
  all : length l.places ≡ length l.fn.regions.items;
  rest : l.yielded ++ into_iter_items l.lock-iterator ≡ l.fn.regions.items;
  place : l.place ≡ length l.yielded;
  len : into_iter_len l.lock-iterator ≡ length (into_iter_items l.lock-iterator);
  lasts : length l.lasts ≡ length l.fn.lasts;
}
