use Rattle.disk_fakes.proofs.Names.{keys_in}
use Rattle.disk_fakes.proofs.table.FileTable.names.Goals as goal

pub returns : goal.returns
returns c = rw (← keys_in c.args.self.now.files c.key_list.ensures.ordered) c.key_list.ensures.keys
