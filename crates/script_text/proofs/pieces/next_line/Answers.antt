use Rattle.std.proofs.Common.{ℕ, ◌∷◌, length, drop, sym, ap, ◌∙◌, add-one}
use Rattle.script_model.specs.Text.{lines_of}
use Rattle.script_text.proofs.TextLaws.{lines_cut}
use Rattle.script_text.proofs.pieces.next_line.Goals as goal

pub returns-clause-lines : goal.returns-clause-lines
returns-clause-lines c =
    let text = c.args.text.now in
    let n : ℕ = length c.cut.result.0.now in
    lines_cut text n c.cut.ensures.at.0 c.cut.ensures.before c.cut.ensures.found c.requires
    ∙ (λ i. sym c.cut.ensures.at.1.0 i ∷ lines_of ((ap (λ (m : ℕ). drop m text) (sym (add-one n)) ∙ sym c.cut.ensures.at.1.1) i))
