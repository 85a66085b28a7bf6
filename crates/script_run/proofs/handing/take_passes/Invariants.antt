use Rattle.std.proofs.Common.{◌≡◌, length, vec_len, vec_capacity}
use Rattle.script_handlers.specs.log_service.Places.{ServiceId}
use Rattle.script_handlers.specs.region_calls.Deals.{passes_out, passes_back, ArePassesOf}
use Rattle.script_run.specs.Ran.{AllOfPlace}
use Rattle.script_run.specs.Rooms.{AreTaken}
use Rattle.script_run.proofs.handing.take_passes.Given as goal

abbrev pub invariant-loop-room : goal.invariant-loop-room
invariant-loop-room g l = record {
  taken : AreTaken 1 l.yielded l.handlers.items;
  out : passes_out l.passes ≡ length l.yielded;
  back : passes_back l.passes ≡ passes_back l.initial.passes;
  len : vec_len l.handlers ≡ length l.yielded;
  room : vec_capacity l.handlers ≡ vec_capacity l.initial.handlers;
  of : (place : ServiceId) → ArePassesOf place g.N.LockNaming.handlers l.fn.passes → ArePassesOf place g.N.LockNaming.handlers l.passes × AllOfPlace place l.handlers.items;
}
