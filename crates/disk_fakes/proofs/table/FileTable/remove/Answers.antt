use Rattle.disk_fakes.proofs.Names.{none_now, updated}
use Rattle.std.proofs.Common.{None}
use Rattle.disk_fakes.proofs.table.FileTable.remove.Goals as goal

pub returns-clause-removed : goal.returns-clause-removed
returns-clause-removed c = none_now c.remove.new.self c.args.name c.remove.ensures.updates.1

pub returns-clause-others : goal.returns-clause-others
returns-clause-others c = updated c.args.self.now.files c.remove.new.self c.args.name None c.remove.ensures.updates.2
