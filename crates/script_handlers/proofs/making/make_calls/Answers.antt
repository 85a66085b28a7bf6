use Rattle.std.proofs.Common.{◌≡◌, ℕ, ◌+◌, ◌++◌, [], ◌∷◌, List, None, map, length, reverse, refl, sym, ap, ◌∙◌, subst, arith, length-append}
use Rattle.std.proofs.lemmas.List.{map-append, length-map, append_assoc, reverse-append, reverse-reverse}
use Rattle.script_calls.specs.declared.call.Call.{Call as TheCall}
use Rattle.script_calls.specs.Answers.{answer_of}
use Rattle.script_calls.specs.Calls.{call_of}
use Rattle.script_model.specs.Report.{ReplyLine}
use Rattle.region_model.specs.Calls.{Call, is_get}
use Rattle.run_model.specs.Spent.{first_of, told_at, told_spent}
use Rattle.script_handlers.specs.Handled.{Handles, MayCallAll}
use Rattle.script_handlers.proofs.Laws.{handles_none, handles_push}
use Rattle.script_handlers.proofs.making.make_calls.Goals as goal

pub loop-call-init : goal.loop-call-init
loop-call-init g c =
    let S = g.S.Serves in
    let calls = c.args.calls.items in
    let first = S.knows c.args.pass.now in
    let same : reverse c.reverse.new.self.items ≡ calls = ap (λ (xs : List TheCall). reverse xs) c.reverse.ensures.items ∙ reverse-reverse calls in
    record {
      done = [];
      all = sym same;
      handles = subst (λ (lines : List ReplyLine). Handles S.handler_of (S.does c.args.server.now c.args.time) S.calls_of (S.handler_of first) [] first first lines None) (sym c.requires.none)
          (handles_none S.handler_of S.calls_of (S.does c.args.server.now c.args.time) (S.handler_of first) first refl c.requires.fresh);
      number = refl;
      left = omega (arith, c.reverse.ensures.len);
      len = omega (arith, c.args.replies.now.ok, ap (λ (lines : List ReplyLine). length lines) c.requires.none);
      room = refl;
      may = subst (λ (xs : List TheCall). MayCallAll S.may (S.handler_of first) 1 (map call_of xs)) (sym same) c.requires.may;
      of = c.requires.of;
    }

pub loop-call-preserved : goal.loop-call-preserved
loop-call-preserved g c =
    let S = g.S.Serves in
    let inv = c.loop-call.invariant in
    let first = S.knows c.args.pass.now in
    let h : ℕ = S.handler_of (S.knows c.args.pass.now) in
    let made : TheCall = c.in-Some.call in
    let left : List TheCall = c.next_call.new.later.items in
    let done : List Call = map call_of inv.done in
    let call : Call = call_of made in
    let mid = S.knows c.loop-call.pass in
    let last = S.knows c.make-answer.new.pass in
    let answer = answer_of c.make-answer.result in
    let taken : c.loop-call.later.items ≡ left ++ made ∷ [] = subst (λ o. c.loop-call.later.items ≡ left ++ Rattle.std.specs.Prelude.option_to_list o) c.in-Some.is c.next_call.ensures.call in
    let turned : reverse c.loop-call.later.items ≡ made ∷ reverse left = ap (λ (xs : List TheCall). reverse xs) taken ∙ reverse-append left (made ∷ []) in
    let fewer = subst (λ o. Rattle.std.specs.Vec.vec_len c.next_call.new.later + length (Rattle.std.specs.Prelude.option_to_list o) ≡ Rattle.std.specs.Vec.vec_len c.loop-call.later) c.in-Some.is c.next_call.ensures.len in
    let all : c.args.calls.items ≡ (inv.done ++ made ∷ []) ++ reverse left =
    inv.all ∙ ap (λ (xs : List TheCall). inv.done ++ xs) turned ∙ sym (append_assoc inv.done (made ∷ []) (reverse left)) in
    let len : length done ≡ c.loop-call.number = length-map inv.done call_of ∙ sym inv.number in
    let does = subst (λ n. S.does c.args.server.now c.args.time (record { handler = S.handler_of mid; call = n + 1 }) call answer mid last) (sym len) c.make-answer.ensures.does in
    let pushed = handles_push S.handler_of S.calls_of (S.does c.args.server.now c.args.time) h done call answer first mid last c.loop-call.replies.items c.loop-call.spent inv.handles does c.make-answer.ensures.handler (omega (arith, len, c.make-answer.ensures.calls)) in
    let said : c.loop-call.replies.items ++ record { handler = h; call = length done + 1; answer = answer; got = is_get call } ∷ [] ≡ c.push_reserved.new.self.items =
    ap (λ n. c.loop-call.replies.items ++ record { handler = h; call = n + 1; answer = answer; got = is_get call } ∷ []) len
    ∙ ap (λ k. c.loop-call.replies.items ++ record { handler = k; call = c.loop-call.number + 1; answer = answer; got = is_get call } ∷ []) (sym c.handler-handler.ensures)
    ∙ ap (λ b. c.loop-call.replies.items ++ record { handler = c.handler-handler.result; call = c.loop-call.number + 1; answer = answer; got = b } ∷ []) (sym c.make-answer.ensures.got)
    ∙ sym c.push_reserved.ensures.items in
    let kept : first_of c.loop-call.spent (told_spent call answer) ≡ c.or_told-spent.result = ap (λ r. first_of c.loop-call.spent (told_at r answer)) (sym c.region_of-region.ensures) ∙ sym c.or_told-spent.ensures in
    let more : done ++ call ∷ [] ≡ map call_of (inv.done ++ made ∷ []) = sym (map-append call_of inv.done (made ∷ [])) in
    let may = subst (λ (xs : List TheCall). MayCallAll S.may h (c.loop-call.number + 1) (map call_of xs)) turned inv.may in
    record {
      done = inv.done ++ made ∷ [];
      all = all;
      handles = subst (λ xs. Handles S.handler_of (S.does c.args.server.now c.args.time) S.calls_of h xs first last c.push_reserved.new.self.items c.or_told-spent.result) more
          (subst (Handles S.handler_of (S.does c.args.server.now c.args.time) S.calls_of h (done ++ call ∷ []) first last c.push_reserved.new.self.items) kept
          (subst (λ ls. Handles S.handler_of (S.does c.args.server.now c.args.time) S.calls_of h (done ++ call ∷ []) first last ls (first_of c.loop-call.spent (told_spent call answer))) said pushed));
      number = omega (arith, inv.number, length-append inv.done (made ∷ []));
      left = omega (arith, inv.left, fewer);
      len = omega (arith, inv.len, c.push_reserved.ensures.len);
      room = c.push_reserved.ensures.capacity ∙ inv.room;
      may = may.1;
      of = c.make-answer.ensures.of;
    }
