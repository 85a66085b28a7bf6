use Rattle.cell_model.specs.declared.form.Form.TheVariants.{Tagged}
use Rattle.kv_cell.proofs.FrontLaws.{reads_it}
use Rattle.kv_cell.proofs.reading.decode_tagged.Goals as goal

pub returns-clause-only : goal.returns-clause-only
returns-clause-only c = reads_it Tagged c.args.bytes.now c.read_tagged.result c.read_tagged.ensures
