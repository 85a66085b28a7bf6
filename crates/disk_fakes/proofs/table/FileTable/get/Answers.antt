use Rattle.std.proofs.Common.{sym, ◌∙◌, ap}
use Rattle.std.specs.Option.{option_map}
use Rattle.disk_fakes.proofs.Names.{content_in, shown}
use Rattle.disk_fakes.proofs.table.FileTable.get.Goals as goal

pub returns : goal.returns
returns c = content_in c.args.self.now.files c.args.name ∙ ap (option_map (λ v. v.items)) (sym c.get.ensures.value) ∙ shown c.get.result
