use Rattle.system_fakes.proofs.Calls.{tore}
use Rattle.system_fakes.proofs.history.History.tear.Goals as goal

pub returns-in-Ok-apply : goal.returns-in-Ok-apply
returns-in-Ok-apply c = tore c.args.self.now c.apply.new.self c.failure-in-Ok-apply.result c.args.inode c.args.at c.in-Ok.copy c.args.bytes.now c.in-Ok.ensures.long c.requires.given c.requires.within c.in-Ok-apply.ensures.did
