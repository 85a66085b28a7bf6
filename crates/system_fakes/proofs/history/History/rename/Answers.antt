use Rattle.std.proofs.Common.{sym}
use Rattle.system_fakes.proofs.Calls.{renamed}
use Rattle.system_fakes.proofs.history.History.rename.Goals as goal

pub returns-in-Ok : goal.returns-in-Ok
returns-in-Ok c = renamed c.args.self.now c.apply.new.self c.in-Some.inode c.args.from c.args.to c.answer.result (sym c.in-Some.ensures) c.in-Ok.ensures.did
