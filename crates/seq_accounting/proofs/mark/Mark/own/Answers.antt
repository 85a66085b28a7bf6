use Rattle.std.proofs.Common.{sym, ◌∙◌}
use Rattle.seq_accounting.specs.Branch.{linked}
use Rattle.seq_accounting.proofs.TreeLaws.{own_at}
use Rattle.seq_accounting.proofs.mark.Mark.own.Goals as goal

pub returns-then-is_of : goal.returns-then-is_of
returns-then-is_of c =
    let i = c.self.inside in
    own_at c.args.self.now i.region i.family i.number i.bit (linked i.left) (linked i.right) c.args.region c.args.family.now c.self.view_is c.self.invariant (sym c.is_of.ensures ∙ c.if-is_of.true)
