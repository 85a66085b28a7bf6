use denote.Param.Send.{sendable}
use Rattle.std.proofs.Common.{List, ◌∷◌, slice_index_or, sym, ap, ◌∙◌, subst, arith}
use Rattle.std.proofs.Crossing.{crosses}
use Rattle.script_handlers.specs.log_service.declared.seats.LogSeat.{LogSeat}
use Rattle.script_handlers.specs.log_service.Places.{IsSeatOf}
use Rattle.script_handlers.proofs.handler_threads_laws.Crossing.{handler_pass_send, server_sync}
use Rattle.script_handlers.proofs.calling.Calling.TheSendSync as calling
use Rattle.script_handlers.proofs.handler.Handler.TheSendSync as handler
use Rattle.script_run.proofs.running.run_on.Goals as goal

pub run_all-requires-send-J-Handler : goal.run_all-requires-send-J-Handler
run_all-requires-send-J-Handler g c κs within = search (handler.the_send, handler_pass_send, sendable, crosses) fits 5000 depth 30

pub run_all-requires-sync-J : goal.run_all-requires-sync-J
run_all-requires-sync-J g c κs within = search (calling.the_sync, server_sync, sendable, crosses) fits 5000 depth 30

-- the seats come back in the order in which they stood
pub returns-clause-seats : goal.returns-clause-seats
returns-clause-seats g c =
    let place = c.args.server.now in
    let back = sym c.into_iter-seats.ensures.into_iter_gives.0 ∙ c.in-Some.ensures.steps ∙ ap (λ (l : List LogSeat). c.in-Some.first ∷ l) c.in-Some-next.ensures.steps in (
      subst (λ (l : List LogSeat). IsSeatOf place (slice_index_or l 0 c.in-Some.first)) back (c.run_all.ensures.seats.each 0 c.in-Some.first (omega arith)).seat,
      subst (λ (l : List LogSeat). IsSeatOf place (slice_index_or l 1 c.in-Some.first)) back (c.run_all.ensures.seats.each 1 c.in-Some.first (omega arith)).seat,
    )
