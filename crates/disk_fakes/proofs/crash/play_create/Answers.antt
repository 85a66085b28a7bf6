use Rattle.std.proofs.Common.{List, ℕ, Some, ◌∙◌, ap}
use Rattle.std.proofs.lemmas.Result.{on_ok_weaker}
use Rattle.log_model.specs.Files.{Reads}
use Rattle.disk_fakes.specs.Table.{files_in}
use Rattle.disk_fakes.proofs.Played.{created, not_created}
use Rattle.disk_fakes.proofs.crash.play_create.Goals as goal

pub returns-then-undoes_name : goal.returns-then-undoes_name
returns-then-undoes_name c = not_created c.args.name c.args.rest.now (files_in c.args.image.now) (c.undoes_name.ensures c.if-undoes_name.true)

pub returns : goal.returns
returns c =
    on_ok_weaker c.put.result
    (λ (reads : Reads (files_in c.put.new.self) c.args.name c.new.result.items). created c.args.name c.args.rest.now (files_in c.args.image.now) (files_in c.put.new.self) (reads ∙ ap (λ (l : List ℕ). Some l) c.new.ensures.items) c.put.ensures.others)
    c.put.ensures.put
