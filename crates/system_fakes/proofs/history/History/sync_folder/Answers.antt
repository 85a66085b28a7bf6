use Rattle.system_fakes.proofs.Calls.{folder_synced}
use Rattle.system_fakes.proofs.history.History.sync_folder.Goals as goal

pub returns-in-Ok : goal.returns-in-Ok
returns-in-Ok c = folder_synced c.args.self.now c.apply.new.self tt c.in-Ok.ensures.did
