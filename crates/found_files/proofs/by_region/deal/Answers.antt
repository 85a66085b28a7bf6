use Rattle.std.proofs.Common.{ℕ, List, length, ap, ◌∙◌, subst}
use Rattle.found_files.specs.Dealt.{AreEmptyLists}
use Rattle.found_files.proofs.Dealing.{one_dealt, none_dealt}
use Rattle.found_files.proofs.by_region.deal.Goals as goal

pub loop-entry-init : goal.loop-entry-init
loop-entry-init c =
    let lists = c.«in_ok-lists».lists.items in
    let long = ap (λ (counts : List ℕ). length counts) c.deref-2.ensures.value ∙ c.«in_ok-counts».ensures.long in
    none_dealt lists (subst (λ (n : ℕ). AreEmptyLists n lists) long c.«in_ok-lists».ensures)

pub loop-entry-preserved : goal.loop-entry-preserved
loop-entry-preserved c =
    one_dealt c.loop-entry.yielded c.in-Some.entry c.loop-entry.lists.items c.add_to.new.lists.items c.add_to.ensures.in_range c.in_ok-add_to.ensures.added c.loop-entry.invariant
