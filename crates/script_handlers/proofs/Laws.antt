-- A handler's calls, one after the other.
use Rattle.std.proofs.Common.{◌≡◌, ℕ, ◌+◌, ◌<◌, ◌≤◌, Option, None, List, [], ◌∷◌, ◌++◌, length, map, refl, sym, ap, ◌∙◌, subst, arith, length-append}
use Rattle.std.proofs.lemmas.List.{map-append}
use Rattle.region_model.specs.Journal.{Caller}
use Rattle.region_model.specs.Calls.{Call, Answer, Reply, is_get}
use Rattle.script_model.specs.Calls.{Asked, asked_of, asked_by}
use Rattle.script_model.specs.Report.{ReplyLine}
use Rattle.run_model.specs.declared.spent.Spent.{Spent}
use Rattle.run_model.specs.Spent.{first_of, told_spent}
use Rattle.run_model.specs.Headline.{reply_line}
use Rattle.run_model.proofs.SpentLaws.{first_push}
use Rattle.script_handlers.specs.Handled.{StepBy, RunsBy, Handles}

asked_push : (h n : ℕ) (calls : List Call) (call : Call) → asked_of h n (calls ++ call ∷ []) ≡ asked_of h n calls ++ record { handler = h; number = n + length calls; call = call } ∷ []
asked_push h n [] call = ap (λ k. record { handler = h; number = k; call = call } ∷ []) (omega arith)
asked_push h n (c ∷ cs) call =
    ap (λ (xs : List Asked). record { handler = h; number = n; call = c } ∷ xs)
    (asked_push h (n + 1) cs call ∙ ap (λ k. asked_of h (n + 1) cs ++ record { handler = h; number = k; call = call } ∷ []) (omega arith))

module _ {K : Type 0} (handler_of calls_of : K → ℕ) (does : Caller → Call → Answer → K → K → Type 0) where
  runs_push : (first mid last : K) (replies : List Reply) (reply : Reply) → RunsBy handler_of does first replies mid → StepBy handler_of does mid reply last → RunsBy handler_of does first (replies ++ reply ∷ []) last
  runs_push first mid last [] reply same step = (last, subst (λ p. StepBy handler_of does p reply last) same step, refl)
  runs_push first mid last (r ∷ rs) reply (next, s, more) step = (next, s, runs_push next mid last rs reply more step)

  pub handles_none : (h : ℕ) (first : K) → handler_of first ≡ h → calls_of first ≡ 0 → Handles handler_of does calls_of h [] first first [] None
  handles_none h first same none = record { replies = []; runs = refl; asked = refl; lines_are = refl; first_told = refl; handler = same; used = omega (arith, none) }

  pub handles_push : (h : ℕ) (calls : List Call) (call : Call) (answer : Answer) (first mid last : K) (lines : List ReplyLine) (spent : Option Spent)
      → Handles handler_of does calls_of h calls first mid lines spent → does (record { handler = handler_of mid; call = length calls + 1 }) call answer mid last → handler_of last ≡ handler_of mid → calls_of last ≤ length calls + 1
      → Handles handler_of does calls_of h (calls ++ call ∷ []) first last (lines ++ record { handler = h; call = length calls + 1; answer = answer; got = is_get call } ∷ []) (first_of spent (told_spent call answer))
  handles_push h calls call answer first mid last lines spent so made same few =
      let reply : Reply = record { handler = h; number = length calls + 1; call = call; answer = answer } in
      let step : StepBy handler_of does mid reply last = record { handler = sym so.handler; made = subst (λ k. does (record { handler = k; call = length calls + 1 }) call answer mid last) so.handler made } in
      record {
        replies = so.replies ++ reply ∷ [];
        runs = runs_push first mid last so.replies reply so.runs step;
        asked = map-append asked_by so.replies (reply ∷ []) ∙ ap (λ (xs : List Asked). xs ++ record { handler = h; number = length calls + 1; call = call } ∷ []) so.asked
            ∙ ap (λ k. asked_of h 1 calls ++ record { handler = h; number = k; call = call } ∷ []) (omega arith) ∙ sym (asked_push h 1 calls call);
        lines_are = map-append reply_line so.replies (reply ∷ []) ∙ ap (λ (xs : List ReplyLine). xs ++ record { handler = h; call = length calls + 1; answer = answer; got = is_get call } ∷ []) so.lines_are;
        first_told = first_push so.replies reply ∙ ap (λ o. first_of o (told_spent call answer)) so.first_told;
        handler = same ∙ so.handler;
        used = omega (arith, few, length-append calls (call ∷ []));
      }
