use Rattle.disk_fakes.proofs.Names.{there_now, updated}
use Rattle.std.proofs.Common.{Some}
use Rattle.disk_fakes.proofs.table.FileTable.put.Goals as goal

pub returns-clause-put : goal.returns-clause-put
returns-clause-put c = there_now c.insert.new.self c.args.name c.args.bytes c.in_ok-insert.ensures.updates.1

pub returns-clause-others : goal.returns-clause-others
returns-clause-others c = updated c.args.self.now.files c.insert.new.self c.args.name (Some c.args.bytes) c.in_ok-insert.ensures.updates.2
