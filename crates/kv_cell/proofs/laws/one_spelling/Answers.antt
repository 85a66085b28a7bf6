use Rattle.std.proofs.Common.{[], sym}
use Rattle.std.proofs.lemmas.List.{append-nil}
use Rattle.cell_model.specs.Cell.{spelled}
use Rattle.cell_model.proofs.CellLaws.{one_front}
use Rattle.kv_cell.proofs.laws.one_spelling.Goals as goal

pub returns-clause-fronts : goal.returns-clause-fronts
returns-clause-fronts c = one_front

pub returns-clause-begins : goal.returns-clause-begins
returns-clause-begins c form x y is_x is_y begins =
    one_front form (spelled form y) x y (record { cell = is_x; rest = begins.0; is = begins.1 }) (record { cell = is_y; rest = []; is = sym (append-nil (spelled form y)) })
