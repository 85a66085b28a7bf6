use Rattle.system_fakes.proofs.Calls.{doubted}
use Rattle.system_fakes.proofs.history.History.doubt.Goals as goal

pub returns-in-Ok : goal.returns-in-Ok
returns-in-Ok c = doubted c.args.self.now c.apply.new.self c.failure.result c.args.inode c.in-Ok.ensures.did
