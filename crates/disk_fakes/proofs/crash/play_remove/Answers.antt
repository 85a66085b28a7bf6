use Rattle.disk_fakes.specs.Table.{files_in}
use Rattle.disk_fakes.proofs.Played.{removed, not_removed}
use Rattle.disk_fakes.proofs.crash.play_remove.Goals as goal

pub returns-then-not-undoes_removal : goal.returns-then-not-undoes_removal
returns-then-not-undoes_removal c = removed c.args.name c.args.rest.now (files_in c.args.image.now) (files_in c.remove.new.self) c.remove.ensures.removed c.remove.ensures.others

pub returns-else-not-undoes_removal : goal.returns-else-not-undoes_removal
returns-else-not-undoes_removal c = not_removed c.args.name c.args.rest.now (files_in c.args.image.now) (c.undoes_removal.ensures c.if-not-undoes_removal.false)
