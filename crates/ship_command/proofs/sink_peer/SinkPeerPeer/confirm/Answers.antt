use Rattle.std.proofs.Common.{true, refl}
use Rattle.log_tail.specs.Position.{position_of}
use Rattle.ship_queue.specs.Messages.{Record_of}
use Rattle.ship_command.proofs.Written.{written_more, torn_then}
use Rattle.ship_command.proofs.sink_peer.SinkPeerPeer.confirm.Goals as goal

pub returns-in-Ok-clause-recorded : goal.returns-in-Ok-clause-recorded
returns-in-Ok-clause-recorded g c ms h = written_more _ _ _ _ _ ms (Record_of (position_of c.args.at)) h (c.in-Ok.ensures.ok h.tells)

pub returns-in-Err-clause-torn : goal.returns-in-Err-clause-torn
returns-in-Err-clause-torn g c ms h err = torn_then _ _ _ _ _ ms (Record_of (position_of c.args.at)) h (c.in-Err.ensures.cut h.tells (refl {a = true}))
