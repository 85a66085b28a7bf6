use Rattle.std.specs.Prelude.{Contains}
use Rattle.system_fakes.specs.Views.{history_view}
use Rattle.system_fakes.proofs.Steps.{syncs_doubtful}
use Rattle.system_fakes.proofs.Calls.{synced, held_is}
use Rattle.system_fakes.proofs.history.History.sync.Goals as goal

pub returns-then-is_doubtful : goal.returns-then-is_doubtful
returns-then-is_doubtful c = syncs_doubtful tt c.args.file.now.inode (history_view c.args.self.now) (held_is c.args.self.now (λ h. Contains h.doubtful c.args.file.now.inode) (c.is_doubtful.ensures.0 c.if-is_doubtful.true))

pub returns-in-Ok : goal.returns-in-Ok
returns-in-Ok c = synced c.args.self.now c.apply.new.self tt c.args.file.now.inode c.in-Ok.ensures.did
