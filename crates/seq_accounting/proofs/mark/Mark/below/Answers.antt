use Rattle.std.proofs.Common.{◌≡◌, false, subst, sym, ◌∙◌}
use Rattle.seq_accounting.specs.Marks.{is_of, number_of}
use Rattle.seq_accounting.specs.Branch.{Branch, marks_of, linked}
use Rattle.seq_accounting.proofs.TreeLaws.{at_left, at_right}
use Rattle.seq_accounting.proofs.mark.Mark.below.Goals as goal

pub returns-then-bit_at-clause-number : goal.returns-then-bit_at-clause-number
returns-then-bit_at-clause-number c =
    let i = c.self.inside in
    let other = subst (λ (b : Branch). is_of b.region b.family c.args.region c.args.family.now ≡ false) (sym c.self.view_is) c.requires in
    subst (λ (b : Branch). number_of (linked i.right) c.args.region c.args.family.now ≡ number_of (marks_of b) c.args.region c.args.family.now) c.self.view_is
    (sym (at_right i.region i.family i.number i.bit (linked i.left) (linked i.right) c.args.region c.args.family.now c.self.invariant other (sym c.bit_at.ensures ∙ c.if-bit_at.true)))

pub returns-else-bit_at-clause-number : goal.returns-else-bit_at-clause-number
returns-else-bit_at-clause-number c =
    let i = c.self.inside in
    let other = subst (λ (b : Branch). is_of b.region b.family c.args.region c.args.family.now ≡ false) (sym c.self.view_is) c.requires in
    subst (λ (b : Branch). number_of (linked i.left) c.args.region c.args.family.now ≡ number_of (marks_of b) c.args.region c.args.family.now) c.self.view_is
    (sym (at_left i.region i.family i.number i.bit (linked i.left) (linked i.right) c.args.region c.args.family.now c.self.invariant other (sym c.bit_at.ensures ∙ c.if-bit_at.false)))
