use Rattle.std.proofs.Common.{◌≡◌, ◌≤◌, length, All, vec_capacity}
use Rattle.service_trials.specs.Crew.{AreOut, IsOf}
use Rattle.service_trials.proofs.crowd.hand_out.Given as goal

abbrev pub invariant-loop-given : goal.invariant-loop-given
invariant-loop-given g l = record {
  out : AreOut l.service l.given l.passes l.seats.consumers l.seats.devices;
  len : length l.crew.items ≡ l.given;
  room : 16 ≤ vec_capacity l.crew;
  ready : All (IsOf l.service) l.crew.items;
}
