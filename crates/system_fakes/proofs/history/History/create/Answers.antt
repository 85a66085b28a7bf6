use Rattle.system_fakes.proofs.Calls.{created}
use Rattle.system_fakes.proofs.history.History.create.Goals as goal

pub returns-in-Ok : goal.returns-in-Ok
returns-in-Ok c = created c.args.self.now c.apply.new.self c.args.name record { inode = c.given-inode.result } c.answer.result c.given-inode.ensures c.answer.ensures c.in-Ok.ensures.did
