use Rattle.std.proofs.Common.{◌≡◌, map, length, vec_len, vec_capacity}
use Rattle.std.specs.Vec.Iter.{into_iter_items}
use Rattle.embedded.specs.log_service.Places.{ServiceId}
use Rattle.embedded.specs.region_calls.Deals.{passes_out, passes_back, ArePassesOf}
use Rattle.embedded_run.specs.Seats.{AllAt, pass_in, handler_in}
use Rattle.embedded_run.proofs.handing.give_back.Given as goal

abbrev pub invariant-loop-one : goal.invariant-loop-one
invariant-loop-one g l = record {
  back : passes_back l.passes ≡ map pass_in l.yielded;
  out : passes_out l.passes ≡ passes_out l.initial.passes;
  handlers : l.handlers.items ≡ map handler_in l.yielded;
  len : vec_len l.handlers ≡ length l.yielded;
  room : vec_capacity l.handlers ≡ vec_capacity l.initial.handlers;
  of : (place : ServiceId) → ArePassesOf place g.N.LockNaming.handlers l.fn.passes → AllAt place l.fn.seated.items
      → ArePassesOf place g.N.LockNaming.handlers l.passes × AllAt place (into_iter_items l.one-iterator);
}
