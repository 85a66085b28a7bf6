use Rattle.seq_accounting.specs.Branch.{linked}
use Rattle.seq_accounting.proofs.LowerLaws.{left_not, both_lower, test_left, test_both}
use Rattle.seq_accounting.proofs.mark.+lower.Goals as goal

pub Mark::is_lower-returns-then-is_lower_below-clause-lower : goal.Mark::is_lower-returns-then-is_lower_below-clause-lower
Mark::is_lower-returns-then-is_lower_below-clause-lower t c =
    let i = c.self.inside in
    both_lower _ _ c.args.self.now i.region i.family i.number i.bit (linked i.left) (linked i.right) c.is_low.result c.is_lower_below.result c.is_lower_below-then-is_lower_below.result c.self.view_is c.self.invariant
    c.is_low.ensures c.if-is_low.true c.is_lower_below.ensures.lower c.if-is_lower_below.true c.is_lower_below-then-is_lower_below.ensures.lower

pub Mark::is_lower-returns-then-is_lower_below-clause-test : goal.Mark::is_lower-returns-then-is_lower_below-clause-test
Mark::is_lower-returns-then-is_lower_below-clause-test t c =
    let i = c.self.inside in
    test_both _ _ c.args.self.now i.region i.family i.number (linked i.left) (linked i.right) c.is_low.result c.is_lower_below.result c.is_lower_below-then-is_lower_below.result c.self.view_is
    c.is_low.ensures c.if-is_low.true c.is_lower_below.ensures.test c.if-is_lower_below.true c.is_lower_below-then-is_lower_below.ensures.test

pub Mark::is_lower-returns-else-is_lower_below-clause-lower : goal.Mark::is_lower-returns-else-is_lower_below-clause-lower
Mark::is_lower-returns-else-is_lower_below-clause-lower t c =
    let i = c.self.inside in
    left_not _ _ c.args.self.now i.region i.family i.number i.bit (linked i.left) (linked i.right) c.is_lower_below.result c.self.view_is c.self.invariant c.is_lower_below.ensures.lower c.if-is_lower_below.false

pub Mark::is_lower-returns-else-is_lower_below-clause-test : goal.Mark::is_lower-returns-else-is_lower_below-clause-test
Mark::is_lower-returns-else-is_lower_below-clause-test t c =
    let i = c.self.inside in
    test_left _ _ c.args.self.now i.region i.family i.number (linked i.left) (linked i.right) c.is_lower_below.result c.self.view_is c.is_lower_below.ensures.test c.if-is_lower_below.false
