use Rattle.std.proofs.Common.{refl}
use Rattle.system_fakes.proofs.Calls.{wrote}
use Rattle.system_fakes.proofs.history.History.write_whole.Goals as goal

pub returns-in-Ok-apply : goal.returns-in-Ok-apply
returns-in-Ok-apply c = wrote c.args.self.now c.apply.new.self tt c.args.inode c.args.at c.in-Ok.copy c.args.bytes.now (c.in-Ok.ensures.whole refl) c.requires.given c.requires.within c.in-Ok-apply.ensures.did
