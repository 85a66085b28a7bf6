use Rattle.std.proofs.Common.{◌≡◌, ◌+◌, ◌≤◌, ◌++◌, length, vec_capacity}
use Rattle.std.specs.Vec.Iter.{into_iter_items, into_iter_len}
use Rattle.region_calls.specs.Hands.{AreDeals}
use Rattle.region_calls.specs.Named.{AreNamedSeeds, AreFrom}
use Rattle.region_calls.specs.Seeds.{AreSeeds}
use Rattle.region_calls.proofs.room.name_regions.Given as goal

abbrev pub invariant-naming : goal.invariant-naming
invariant-naming g l = record {
  seeds : AreSeeds l.handlers (length l.yielded + 1) (into_iter_items l.one-iterator);
  named : AreNamedSeeds g.N.LockNaming.desk g.N.LockNaming.spent g.N.VersionsNaming.book g.N.VersionsNaming.region_base g.N.ServiceNaming.lasts (into_iter_items l.one-iterator);
  unlocked : AreFrom 1 l.unlocked.items;
  hands : AreDeals 1 l.handlers l.hands.items;
  regions : length l.unlocked.items ≡ length l.yielded;
  dealt : length l.hands.items ≡ length l.yielded;
  rest : l.yielded ++ into_iter_items l.one-iterator ≡ l.fn.seeds.items;
  len : into_iter_len l.one-iterator ≡ length (into_iter_items l.one-iterator);
  room : (length l.fn.seeds.items ≤ vec_capacity l.unlocked) × (length l.fn.seeds.items ≤ vec_capacity l.hands);
}
