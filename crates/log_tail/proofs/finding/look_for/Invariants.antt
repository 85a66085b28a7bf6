use Rattle.std.proofs.Common.{◌<◌, ◌-◌, ◌^◌, IsTrue, take}
use Rattle.log_tail.specs.Found.{HasSeen}
use Rattle.log_tail.proofs.finding.look_for.Given as goal

abbrev pub invariant-loop-name : goal.invariant-loop-name
invariant-loop-name l = HasSeen (take l.name-index l.names) l.number l.seen × (IsTrue l.seen.has_higher → l.number < 2 ^ 64 - 1)
