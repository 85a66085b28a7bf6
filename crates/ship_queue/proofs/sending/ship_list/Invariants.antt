use Rattle.std.proofs.Common.{◌≡◌, ℕ, ◌≤◌, ◌+◌, take}
use Rattle.log_tail.specs.Reads.{placed_behind}
use Rattle.ship_queue.specs.Course.{counted}
use Rattle.ship_queue.specs.Sent.{HasSent}
use Rattle.ship_queue.proofs.sending.ship_list.Given as goal

abbrev pub invariant-loop-entry : goal.invariant-loop-entry
invariant-loop-entry g l = record {
  place : l.place ≡ l.at.entries + l.entry-index;
  sent : HasSent g.P.Peer.has l.initial.peer l.peer l.initial.count.unrecorded l.count.unrecorded (placed_behind l.at.file l.at.entries (take l.entry-index l.entries));
  count : (n : ℕ) → l.initial.count.entries ≡ counted n → l.count.entries ≡ counted (n + l.entry-index);
  stays : g.P.Peer.stays l.initial.peer l.peer;
  later : g.P.Peer.faults l.initial.peer ≤ g.P.Peer.faults l.peer;
}
