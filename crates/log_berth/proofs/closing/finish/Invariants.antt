use Rattle.std.proofs.Common.{◌≡◌, ◌≤◌, take}
use Rattle.std.specs.Prelude.{vec_capacity}
use Rattle.std.specs.Slots.{slots_items}
use Rattle.log_berth.proofs.closing.finish.Given as goal

abbrev pub invariant-loop-region : goal.invariant-loop-region
invariant-loop-region g l = record {
  made : l.synced.items ≡ take l.region (slots_items l.closed.words);
  room : l.regions ≤ vec_capacity l.synced;
}
