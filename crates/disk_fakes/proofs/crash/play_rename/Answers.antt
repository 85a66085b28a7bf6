use Rattle.disk_fakes.specs.Table.{files_in}
use Rattle.disk_fakes.proofs.Played.{moved, not_moved}
use Rattle.disk_fakes.proofs.crash.play_rename.Goals as goal

pub returns-then-undoes_name : goal.returns-then-undoes_name
returns-then-undoes_name c = not_moved c.args.from c.args.to c.args.rest.now (files_in c.args.image.now) (c.undoes_name.ensures c.if-undoes_name.true)

pub returns : goal.returns
returns c =
    moved c.args.from c.args.to c.args.rest.now (files_in c.args.image.now) (files_in c.put.new.self) (files_in c.remove.new.self) c.in_ok-copy.copy.items c.in_ok-copy.ensures
    c.in_ok-put.ensures.put c.put.ensures.others c.remove.ensures.removed c.remove.ensures.others
