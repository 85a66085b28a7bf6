use Rattle.std.proofs.Common.{◌∙◌, sym}
use Rattle.log_tail.specs.Position.{position_of}
use Rattle.ship_queue.proofs.Told.{shipped_record, recorded_record}
use Rattle.ship_queue.proofs.memory_peer.MemPeerPeer.confirm.Goals as goal

pub returns-clause-recorded : goal.returns-clause-recorded
returns-clause-recorded c ms h = (h.0 ∙ sym (shipped_record ms (position_of c.args.at)), sym (recorded_record ms (position_of c.args.at)))
