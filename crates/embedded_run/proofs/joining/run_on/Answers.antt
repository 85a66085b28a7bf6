use denote.Param.Send.{sendable}
use Rattle.std.proofs.Common.{ℕ, zero, suc, ◌<◌, List, [], ◌∷◌, slice_index_or, sym, ap, ◌∙◌, subst, arith}
use Rattle.std.proofs.Crossing.{crosses}
use Rattle.embedded.specs.log_service.declared.seats.LogSeat.{LogSeat}
use Rattle.embedded.specs.log_service.Places.{IsSeatOf}
use Rattle.embedded.proofs.handler_threads_laws.Crossing.{handler_pass_send, server_sync}
use Rattle.embedded_run.proofs.job.SessionJob.TheSendSync as job
use Rattle.embedded_run.proofs.seated.Seated.TheSendSync as seated
use Rattle.embedded_run.proofs.joining.run_on.Goals as goal

pub run_all-requires-send-J-Handler : goal.run_all-requires-send-J-Handler
run_all-requires-send-J-Handler g c κs within = search (seated.the_send, handler_pass_send, sendable, crosses) fits 5000 depth 30

pub run_all-requires-sync-J : goal.run_all-requires-sync-J
run_all-requires-sync-J g c κs within = search (job.the_sync, server_sync, sendable, crosses) fits 5000 depth 30

pub run_all-requires-clause-seats : goal.run_all-requires-clause-seats
run_all-requires-clause-seats g c κs within = each
  where
    each : (i : ℕ) (d : LogSeat) → i < 2 → IsSeatOf c.args.server.now (slice_index_or (c.in-Some.first ∷ c.in-Some-next.second ∷ []) i d)
    each zero d low = (c.in-Some.ensures.of c.args.server.now c.requires.helpers.1).1
    each (suc zero) d low = (c.in-Some-next.ensures.of c.args.server.now (c.in-Some.ensures.of c.args.server.now c.requires.helpers.1).0).1
    each (suc (suc i)) d low = absurd (omega (arith, low))

-- the seats come back in the order in which they stood
pub returns-clause-helpers : goal.returns-clause-helpers
returns-clause-helpers g c =
    let place = c.args.server.now in
    let one = c.in-Some.ensures.of place c.requires.helpers.1 in
    let two = c.in-Some-next.ensures.of place one.0 in
    let back = sym c.into_iter-seats.ensures.into_iter_gives.0 ∙ c.in-Some-next-2.ensures.steps ∙ ap (λ (l : List LogSeat). c.in-Some-next-2.first ∷ l) c.in-Some-next-3.ensures.steps in
    let is_first = subst (λ (l : List LogSeat). IsSeatOf place (slice_index_or l 0 c.in-Some.first)) back (c.run_all.ensures.seats.each 0 c.in-Some.first (omega arith)).seat in
    let is_second = subst (λ (l : List LogSeat). IsSeatOf place (slice_index_or l 1 c.in-Some.first)) back (c.run_all.ensures.seats.each 1 c.in-Some.first (omega arith)).seat in (
      omega (arith, c.put_back-2.ensures.count, c.put_back.ensures.count, c.in-Some.ensures.some, c.in-Some-next.ensures.some, c.requires.helpers.0),
      c.put_back-2.ensures.of place (c.put_back.ensures.of place two.0 is_first) is_second,
    )
