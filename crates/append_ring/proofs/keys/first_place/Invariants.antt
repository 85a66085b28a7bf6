use Rattle.append_ring.specs.Parts.{AreOut}
use Rattle.append_ring.proofs.keys.first_place.Given as goal

abbrev pub invariant-loop-place : goal.invariant-loop-place
invariant-loop-place g l = AreOut l.place l.places
