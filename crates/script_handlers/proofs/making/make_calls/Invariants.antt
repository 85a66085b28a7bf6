use Rattle.std.proofs.Common.{◌≡◌, ◌+◌, ◌++◌, List, map, length, reverse, vec_len, vec_capacity}
use Rattle.script_calls.specs.declared.call.Call.{Call}
use Rattle.script_calls.specs.Calls.{call_of}
use Rattle.script_handlers.specs.Handled.{Handles, MayCallAll}
use Rattle.script_handlers.proofs.making.make_calls.Given as goal

-- those done are the calls in front of those left, which stand in the other order
abbrev pub invariant-loop-call : goal.invariant-loop-call
invariant-loop-call g l =
    let S = g.S.Serves in
    record {
      done : List Call;
      all : l.fn.calls.items ≡ done ++ reverse l.later.items;
      handles : Handles S.handler_of (S.does l.server l.time) S.calls_of (S.handler_of (S.knows l.initial.pass)) (map call_of done) (S.knows l.initial.pass) (S.knows l.pass) l.replies.items l.spent;
      number : l.number ≡ length done;
      left : l.number + vec_len l.later ≡ vec_len l.fn.calls;
      len : vec_len l.replies ≡ l.number;
      room : vec_capacity l.replies ≡ vec_capacity l.initial.replies;
      may : MayCallAll S.may (S.handler_of (S.knows l.initial.pass)) (l.number + 1) (map call_of (reverse l.later.items));
      of : S.is_pass l.server l.pass;
    }

abbrev pub decreases-loop-call : goal.decreases-loop-call
decreases-loop-call g l = vec_len l.later
