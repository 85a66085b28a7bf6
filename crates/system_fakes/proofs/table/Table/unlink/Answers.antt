use Rattle.std.proofs.Common.{refl}
use Rattle.system_fakes.proofs.Names.{removed, held_same}
use Rattle.system_fakes.proofs.table.Table.unlink.Goals as goal

pub returns-clause-unlinked : goal.returns-clause-unlinked
returns-clause-unlinked c = held_same _ _ (removed c.args.self.now.names c.remove.new.self c.args.name c.remove.ensures.updates.1 c.remove.ensures.updates.2) refl refl refl
