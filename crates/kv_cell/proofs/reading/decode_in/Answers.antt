use Rattle.std.proofs.Common.{◌≡◌, sym, subst, IsOkAnd}
use Rattle.cell_model.specs.Cell.{Cell, Fronts, spelled_length}
use Rattle.cell_model.specs.declared.form.Form.{Form}
use Rattle.kv_cell.proofs.reading.decode_in.Goals as goal

pub returns-in-Plain-clause-only : goal.returns-in-Plain-clause-only
returns-in-Plain-clause-only c =
    subst (λ (f : Form). (d : Cell) → Fronts f c.args.bytes.now d → IsOkAnd c.decode.result (λ x. (x.0 ≡ d) × (x.1 ≡ spelled_length f d))) (sym c.in-Plain.is) c.decode.ensures.only

pub returns-in-Tagged-clause-only : goal.returns-in-Tagged-clause-only
returns-in-Tagged-clause-only c =
    subst (λ (f : Form). (d : Cell) → Fronts f c.args.bytes.now d → IsOkAnd c.decode_tagged.result (λ x. (x.0 ≡ d) × (x.1 ≡ spelled_length f d))) (sym c.in-Tagged.is) c.decode_tagged.ensures.only
