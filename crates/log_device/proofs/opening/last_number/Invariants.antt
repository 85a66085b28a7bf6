use Rattle.std.proofs.Common.{take}
use Rattle.log_model.specs.Recovered.{IsGreatest}
use Rattle.log_device.proofs.Starting.{HasLog}
use Rattle.log_device.proofs.opening.last_number.Given as goal

abbrev pub invariant-loop-name : goal.invariant-loop-name
invariant-loop-name l = IsGreatest (HasLog (take l.name-index l.names)) l.last
