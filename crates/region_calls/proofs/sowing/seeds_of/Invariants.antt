use Rattle.std.proofs.Common.{◌≡◌, ◌≤◌, ◌++◌, length, map, vec_capacity}
use Rattle.std.specs.Vec.Iter.{into_iter_items}
use Rattle.region_calls.specs.Seeds.{AreSeeds, base_of, bases_found}
use Rattle.region_calls.proofs.sowing.seeds_of.Given as goal

abbrev pub invariant-sowing : goal.invariant-sowing
invariant-sowing l = record {
  seeds : AreSeeds l.handlers 1 l.seeds.items;
  bases : map base_of l.seeds.items ≡ bases_found l.yielded;
  count : length l.seeds.items ≡ length l.yielded;
  rest : l.yielded ++ into_iter_items l.one-iterator ≡ l.fn.found.items;
  room : length l.fn.found.items ≤ vec_capacity l.seeds;
}
