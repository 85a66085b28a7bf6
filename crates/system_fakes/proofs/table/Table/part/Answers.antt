use Rattle.std.proofs.Common.{◌∙◌, sym}
use Rattle.system_fakes.proofs.Names.{get_in}
use Rattle.system_fakes.proofs.table.Table.part.Goals as goal

pub returns : goal.returns
returns c = c.copied.ensures ∙ c.get.ensures.value ∙ sym (get_in c.args.self.now.parts c.args.name)
