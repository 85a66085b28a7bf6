use Rattle.std.proofs.Common.{◌≡◌, map, length, vec_len, vec_capacity}
use Rattle.std.specs.Vec.Iter.{into_iter_items}
use Rattle.script_handlers.specs.log_service.Places.{ServiceId}
use Rattle.script_handlers.specs.region_calls.Deals.{passes_out, passes_back, ArePassesOf}
use Rattle.script_run.specs.Ran.{AllOfPlace, pass_of, lines_in, spent_in}
use Rattle.script_run.specs.Ends.{first_of_all}
use Rattle.script_run.proofs.handing.give_back.Given as goal

abbrev pub invariant-loop-handler : goal.invariant-loop-handler
invariant-loop-handler g l = record {
  back : passes_back l.passes ≡ map pass_of l.yielded;
  out : passes_out l.passes ≡ passes_out l.initial.passes;
  parts : l.parts.items ≡ map lines_in l.yielded;
  len : vec_len l.parts ≡ length l.yielded;
  room : vec_capacity l.parts ≡ vec_capacity l.initial.parts;
  spent : l.first ≡ first_of_all (map spent_in l.yielded);
  of : (place : ServiceId) → ArePassesOf place g.N.LockNaming.handlers l.fn.passes → AllOfPlace place l.fn.handlers.items
      → ArePassesOf place g.N.LockNaming.handlers l.passes × AllOfPlace place (into_iter_items l.handler-iterator);
}
