use Rattle.std.proofs.Common.{◌∙◌, sym}
use Rattle.system_fakes.proofs.Names.{get_in}
use Rattle.system_fakes.proofs.table.Table.inode.Goals as goal

pub returns : goal.returns
returns c = c.copied.ensures ∙ c.get.ensures.value ∙ sym (get_in c.args.self.now.names c.args.name)
