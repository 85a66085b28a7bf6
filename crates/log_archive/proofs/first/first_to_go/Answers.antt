use Rattle.std.proofs.Common.{sym, ◌∙◌, arith}
use Rattle.std.proofs.lemmas.Bool.{false≢true}
use Rattle.log_archive.proofs.FirstLaws.{none_more, first_found, none_left}
use Rattle.log_archive.proofs.first.first_to_go.Goals as goal

pub loop-file-init : goal.loop-file-init
loop-file-init c = (omega arith, λ f there later below lower. absurd (omega (arith, later, below)))

pub all_lower-requires : goal.all_lower-requires
all_lower-requires c = let n = c.in-Some.ensures.next in ∣ (n.which, n.there, n.named) ∣₁

pub returns-then-all_lower-clause-first : goal.returns-then-all_lower-clause-first
returns-then-all_lower-clause-first c =
    let next = c.in-Some.ensures.next in
    first_found c.args.accounting.now _ _ _ c.loop-file.invariant.0 c.loop-file.invariant.1 next ((c.all_lower.ensures next.which next.there next.named).0 c.if-all_lower.true)

pub loop-file-preserved : goal.loop-file-preserved
loop-file-preserved c = (
  omega (arith, c.loop-file.invariant.0, c.in-Some.ensures.next.above),
  none_more c.args.accounting.now _ _ _ c.loop-file.invariant.1 c.in-Some.ensures.next
      (λ f there named lower. false≢true (sym c.if-all_lower.false ∙ (c.all_lower.ensures f there named).1 lower)),
)

pub returns-clause-first : goal.returns-clause-first
returns-clause-first c = none_left c.args.accounting.now _ _ c.loop-file.invariant.1 c.in_default.ensures.next

pub returns-then-all_lower-clause-given : goal.returns-then-all_lower-clause-given
returns-then-all_lower-clause-given c f there = (c.in-Some.ensures.order.files f there).given

pub returns-clause-given : goal.returns-clause-given
returns-clause-given c f there = (c.in_default.ensures.order.files f there).given
