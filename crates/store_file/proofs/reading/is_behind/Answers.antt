use Rattle.log_model.proofs.Rises.{behind_last}
use Rattle.store_file.proofs.reading.is_behind.Goals as goal

pub returns-in-Some : goal.returns-in-Some
returns-in-Some c = behind_last c.eq.result c.compare_numbered.result c.args.cells.now c.in-Some.field-0-1.now c.in-Some.field-0-0.now (c.args.number, c.args.cell.now)
    c.eq.ensures c.compare_numbered.ensures c.in-Some.ensures.cases.0 c.requires
