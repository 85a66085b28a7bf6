use Rattle.system_fakes.proofs.Calls.{ticked}
use Rattle.system_fakes.proofs.history.History.tick.Goals as goal

pub returns-in-Ok-clause-ticks : goal.returns-in-Ok-clause-ticks
returns-in-Ok-clause-ticks c = ticked c.args.self.now c.apply.new.self c.in-Ok.ensures.did
