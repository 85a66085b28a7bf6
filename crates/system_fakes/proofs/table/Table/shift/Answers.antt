use Rattle.std.proofs.Common.{refl, ◌∙◌, ap}
use Rattle.std.specs.FinMap.{insert}
use Rattle.folder_system.specs.System.{Folder}
use Rattle.system_fakes.proofs.Names.{inserted, removed, held_same}
use Rattle.system_fakes.proofs.table.Table.shift.Goals as goal

pub returns : goal.returns
returns c =
    held_same _ _
    (inserted c.remove.new.self c.insert.new.self c.args.to c.args.inode c.in_ok-insert.ensures.updates.1 c.in_ok-insert.ensures.updates.2
    ∙ ap (λ (D : Folder). insert D c.args.to c.args.inode) (removed c.args.self.now.names c.remove.new.self c.args.from c.remove.ensures.updates.1 c.remove.ensures.updates.2))
    refl refl refl
