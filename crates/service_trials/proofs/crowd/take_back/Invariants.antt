use Rattle.std.proofs.Common.{◌≡◌, ◌+◌, length, All}
use Rattle.std.specs.Vec.Iter.{into_iter_items, into_iter_len}
use Rattle.service_trials.specs.Crew.{AreIn, IsOf}
use Rattle.service_trials.proofs.crowd.take_back.Given as goal

abbrev pub invariant-loop-member : goal.invariant-loop-member
invariant-loop-member g l = record {
  back : AreIn l.service l.before l.passes l.seats.consumers l.seats.devices;
  left : All (IsOf l.service) (into_iter_items l.member-iterator);
  count : l.before + length (into_iter_items l.member-iterator) ≡ 16;
  len : into_iter_len l.member-iterator ≡ length (into_iter_items l.member-iterator);
}
