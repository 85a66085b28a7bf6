use Rattle.std.proofs.Common.{refl, ◌∙◌, ap}
use Rattle.std.specs.FinMap.{remove}
use Rattle.folder_system.specs.System.{Folder}
use Rattle.system_fakes.specs.Table.{folder_in}
use Rattle.system_fakes.proofs.Names.{inserted, removed, swapped, held_same}
use Rattle.system_fakes.proofs.table.Table.rename.Goals as goal

pub returns-clause-moved : goal.returns-clause-moved
returns-clause-moved c =
    held_same _ _
    (removed c.insert.new.self c.remove.new.self c.args.from c.remove.ensures.updates.1 c.remove.ensures.updates.2
    ∙ ap (λ (D : Folder). remove D c.args.from) (inserted c.args.self.now.names c.insert.new.self c.args.to c.args.inode c.in_ok-insert.ensures.updates.1 c.in_ok-insert.ensures.updates.2)
    ∙ swapped (folder_in c.args.self.now.names) c.args.from c.args.to c.args.inode c.requires.from c.requires.to)
    refl refl refl
