use Rattle.cell_model.proofs.CellLaws.{bytes-number_2, bytes-number_4, bytes-number_8}
use Rattle.kv_cell.proofs.laws.number_bytes.Goals as goal

pub returns-clause-two : goal.returns-clause-two
returns-clause-two c = bytes-number_2

pub returns-clause-four : goal.returns-clause-four
returns-clause-four c = bytes-number_4

pub returns-clause-eight : goal.returns-clause-eight
returns-clause-eight c = bytes-number_8
