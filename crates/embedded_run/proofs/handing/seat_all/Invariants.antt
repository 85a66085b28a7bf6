use Rattle.std.proofs.Common.{◌≡◌, length, vec_len, vec_capacity}
use Rattle.embedded.specs.log_service.Places.{ServiceId}
use Rattle.embedded.specs.region_calls.Deals.{passes_out, passes_back, ArePassesOf}
use Rattle.embedded_run.specs.Seats.{AreTaken, AllAt}
use Rattle.embedded_run.proofs.handing.seat_all.Given as goal

abbrev pub invariant-loop-handler : goal.invariant-loop-handler
invariant-loop-handler g l = record {
  taken : AreTaken 1 l.yielded l.seated.items;
  out : passes_out l.passes ≡ length l.yielded;
  back : passes_back l.passes ≡ passes_back l.initial.passes;
  len : vec_len l.seated ≡ length l.yielded;
  room : vec_capacity l.seated ≡ vec_capacity l.initial.seated;
  of : (place : ServiceId) → ArePassesOf place g.N.LockNaming.handlers l.fn.passes → ArePassesOf place g.N.LockNaming.handlers l.passes × AllAt place l.seated.items;
}
