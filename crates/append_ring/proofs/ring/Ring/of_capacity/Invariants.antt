use Rattle.std.proofs.Common.{◌≡◌, ◌≤◌, [], true, length}
use Rattle.crossbeam_queue.specs.Passes.{view, IsPassOf}
use Rattle.std.specs.Prelude.{vec_capacity}
use Rattle.append_ring.specs.Rules.{knows}
use Rattle.append_ring.specs.Parts.{AreNew}
use Rattle.append_ring.proofs.ring.Ring.of_capacity.Given as goal

abbrev pub ghosts-opened : goal.ghosts-opened
ghosts-opened g a = record { lasts = a.lasts.now }

abbrev pub invariant-loop-made : goal.invariant-loop-made
invariant-loop-made g l = record {
  of : IsPassOf l.queue l.pass;
  view : view l.pass ≡ knows 0 true l.made l.lasts [] [];
  count : length l.places.items ≡ l.made;
  room : length l.lasts ≤ vec_capacity l.places;
  new : AreNew l.queue.table.shared.table_id l.lasts 0 l.places.items;
}
