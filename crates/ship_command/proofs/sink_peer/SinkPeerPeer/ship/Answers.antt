use Rattle.std.proofs.Common.{true, refl}
use Rattle.ship_queue.specs.Messages.{Entry_of, placed}
use Rattle.ship_command.proofs.Written.{written_more, torn_then}
use Rattle.ship_command.proofs.sink_peer.SinkPeerPeer.ship.Goals as goal

pub returns-in-Ok-clause-shipped : goal.returns-in-Ok-clause-shipped
returns-in-Ok-clause-shipped g c ms h = written_more _ _ _ _ _ ms (Entry_of (placed c.args.at c.args.entry.now)) h (c.in-Ok.ensures.ok h.tells)

pub returns-in-Err-clause-torn : goal.returns-in-Err-clause-torn
returns-in-Err-clause-torn g c ms h err = torn_then _ _ _ _ _ ms (Entry_of (placed c.args.at c.args.entry.now)) h (c.in-Err.ensures.cut h.tells (refl {a = true}))
