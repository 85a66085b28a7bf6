use Rattle.std.proofs.Common.{sym}
use Rattle.system_fakes.proofs.Calls.{placed}
use Rattle.system_fakes.proofs.history.History.put_in_place.Goals as goal

pub returns-in-Ok : goal.returns-in-Ok
returns-in-Ok c = placed c.args.self.now c.apply.new.self c.in-Some.inode c.args.name c.answer.result (sym c.in-Some.ensures) c.in-Ok.ensures.did
