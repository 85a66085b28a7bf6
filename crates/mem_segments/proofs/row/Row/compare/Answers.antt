use Rattle.std.proofs.Common.{subst}
use Rattle.cell_model.specs.Order.{NumberedCell}
use Rattle.mem_segments.specs.Prefix.{IsPrefix}
use Rattle.mem_segments.proofs.Prefixes.{prefixes_decide}
use Rattle.mem_segments.proofs.row.Row.compare.Goals as goal

pub returns-in_default : goal.returns-in_default
returns-in_default c =
    let mine : IsPrefix c.self.inside.prefix c.args.self.now.1.row = subst (λ (x : NumberedCell). IsPrefix c.self.inside.prefix x.1.row) c.self.view_is c.self.invariant in
    let theirs : IsPrefix c.other.inside.prefix c.args.other.now.1.row = subst (λ (x : NumberedCell). IsPrefix c.other.inside.prefix x.1.row) c.other.view_is c.other.invariant in
    prefixes_decide c.args.self.now c.args.other.now c.self.inside.prefix c.other.inside.prefix c.cmp.result mine theirs c.cmp.ensures c.in_default.not-Equal
