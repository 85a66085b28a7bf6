use Rattle.std.proofs.Common.{refl}
use Rattle.system_fakes.proofs.Names.{inserted, held_same}
use Rattle.system_fakes.proofs.table.Table.point.Goals as goal

pub returns : goal.returns
returns c = held_same _ _ (inserted c.args.self.now.names c.insert.new.self c.args.name c.args.inode c.in_ok-insert.ensures.updates.1 c.in_ok-insert.ensures.updates.2) refl refl refl
