use Rattle.std.proofs.Common.{sym}
use Rattle.system_fakes.proofs.Calls.{unlinked}
use Rattle.system_fakes.proofs.history.History.unlink.Goals as goal

pub returns-in-Ok : goal.returns-in-Ok
returns-in-Ok c = unlinked c.args.self.now c.apply.new.self c.in-Some.inode c.args.name c.answer.result (sym c.in-Some.ensures) c.in-Ok.ensures.did
