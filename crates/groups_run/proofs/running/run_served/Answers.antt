use denote.Param.Send.{sendable}
use Rattle.std.proofs.Crossing.{crosses}
use Rattle.group_calls.proofs.script_handlers_laws.calling.Calling.TheSendSync as calling
use Rattle.group_calls.proofs.script_handlers_laws.handler.Handler.TheSendSync as handler
use Rattle.groups_run.proofs.running.run_served.Goals as goal

pub run_all-requires-send-J-Handler : goal.run_all-requires-send-J-Handler
run_all-requires-send-J-Handler g c κs within = search (handler.the_send, sendable, crosses) fits 5000 depth 30

pub run_all-requires-sync-J : goal.run_all-requires-sync-J
run_all-requires-sync-J g c κs within = search (calling.the_sync, sendable, crosses) fits 5000 depth 30
