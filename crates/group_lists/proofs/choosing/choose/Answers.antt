use Rattle.std.proofs.Common.{◌≡◌, ℕ, Some, None, sym, ◌∙◌}
use Rattle.group_lists.specs.Lists.{at_group}
use Rattle.group_lists.proofs.Picking.{chosen_all, none_always}
use Rattle.group_lists.proofs.choosing.choose.Goals as goal

pub take_at-requires-clause-count : goal.take_at-requires-clause-count
take_at-requires-clause-count g c xs is =
    let many = rw c.in_ok-chosen.was at c.requires.count in
    many 2 xs is

pub returns-in_err-take_at-clause-none : goal.returns-in_err-take_at-clause-none
returns-in_err-take_at-clause-none g c =
    none_always ((k : ℕ) × (at_group c.args.lists k ≡ Some None)) c.from_residual-in_err-take_at.result (2, c.in_err-take_at.ensures.none)

pub take_at-requires-2-clause-count : goal.take_at-requires-2-clause-count
take_at-requires-2-clause-count g c xs is =
    let many = rw c.in_ok-chosen.was at c.requires.count in
    many 3 xs is ∙ sym c.in_ok-take_at.ensures.some.0

pub returns-in_err-take_at-2-clause-none : goal.returns-in_err-take_at-2-clause-none
returns-in_err-take_at-2-clause-none g c =
    none_always ((k : ℕ) × (at_group c.args.lists k ≡ Some None)) c.from_residual-in_err-take_at-2.result (3, c.in_err-take_at-2.ensures.none)

pub take_at-requires-3-clause-count : goal.take_at-requires-3-clause-count
take_at-requires-3-clause-count g c xs is =
    let many = rw c.in_ok-chosen.was at c.requires.count in
    many 4 xs is ∙ sym c.in_ok-take_at.ensures.some.0 ∙ sym c.in_ok-take_at-2.ensures.some.0

pub returns-in_err-take_at-3-clause-none : goal.returns-in_err-take_at-3-clause-none
returns-in_err-take_at-3-clause-none g c =
    none_always ((k : ℕ) × (at_group c.args.lists k ≡ Some None)) c.from_residual-in_err-take_at-3.result (4, c.in_err-take_at-3.ensures.none)

pub returns-clause-some : goal.returns-clause-some
returns-clause-some g c =
    let first = c.in_ok-take_at.ensures.some in
    let second = c.in_ok-take_at-2.ensures.some in
    let third = c.in_ok-take_at-3.ensures.some in
    chosen_all c.args.groups c.args.lists c.in_ok-chosen.chosen c.take_at.new.chosen.items c.take_at-2.new.chosen.items c.take_at-3.new.chosen.items c.in_ok-chosen.was
    first.1 second.1 third.1 (third.0 ∙ second.0 ∙ first.0)
