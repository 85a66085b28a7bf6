use Rattle.system_fakes.proofs.Calls.{begun}
use Rattle.system_fakes.proofs.history.History.create_part.Goals as goal

pub returns-in-Ok : goal.returns-in-Ok
returns-in-Ok c = begun c.args.self.now c.apply.new.self c.args.name record { inode = c.given-inode.result } c.answer.result c.given-inode.ensures c.answer.ensures c.in-Ok.ensures.did
