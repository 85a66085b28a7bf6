use Rattle.system_fakes.proofs.Names.{keys_in}
use Rattle.system_fakes.proofs.table.Table.all_names.Goals as goal

pub returns : goal.returns
returns c = rw (← keys_in c.args.self.now.names c.key_list.ensures.ordered) c.key_list.ensures.keys
