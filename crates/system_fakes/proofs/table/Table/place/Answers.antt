use Rattle.std.proofs.Common.{refl}
use Rattle.system_fakes.proofs.Names.{inserted, removed, held_same}
use Rattle.system_fakes.proofs.table.Table.place.Goals as goal

pub returns-clause-placed : goal.returns-clause-placed
returns-clause-placed c =
    held_same _ _ (inserted c.args.self.now.names c.insert.new.self c.args.name c.args.inode c.in_ok-insert.ensures.updates.1 c.in_ok-insert.ensures.updates.2)
    (removed c.args.self.now.parts c.remove.new.self c.args.name c.remove.ensures.updates.1 c.remove.ensures.updates.2) refl refl
