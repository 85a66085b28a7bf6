use Rattle.std.proofs.Common.{◌≡◌, List, ◌∷◌, map, Some, None, sym, ap, subst, ◌∙◌}
use Rattle.std.proofs.lemmas.List.{take_at}
use Rattle.cell_model.specs.Order.{NumberedCell}
use Rattle.mem_segments.specs.Walk.{merged_all, least_of, past}
use Rattle.mem_segments.specs.Leader.{Leads}
use Rattle.mem_segments.proofs.WalkSteps.{nothing_left, one_more}
use Rattle.mem_segments.proofs.merge_iter.MergeIter.next_row.Goals as goal

pub returns-in-None : goal.returns-in-None
returns-in-None c =
    let rests : List (List NumberedCell) = c.self.inside.rests.items in
    let least : least_of rests ≡ None = ap least_of (sym c.deref.ensures.value) ∙ c.in-None.ensures in
    let end = sym c.self.view_is ∙ nothing_left rests least in
    (end, end)

pub pass_leader-requires : goal.pass_leader-requires
pass_leader-requires c = subst (λ (lists : List (List NumberedCell)). Leads 0 lists c.in-Some.leader) (c.deref.ensures.value ∙ sym c.deref_mut.ensures.value) c.in-Some.ensures

pub returns-in-Some : goal.returns-in-Some
returns-in-Some c =
    let rests : List (List NumberedCell) = c.self.inside.rests.items in
    let x : NumberedCell = c.in-Some.leader.row.now in
    let least : least_of rests ≡ Some x = ap least_of (sym c.deref.ensures.value) ∙ c.in-Some.ensures.least in
    let after : c.pass_leader.new.rests ≡ map (past x) rests = c.pass_leader.ensures ∙ ap (map (past x)) c.deref_mut.ensures.value in
    let whole = take_at c.pass_leader.new.rests _ c.self.inside.rests.len (c.pass_leader.auto.rests ∙ c.deref_mut.ensures.len) in
    sym c.self.view_is ∙ one_more rests x least ∙ (λ i. x ∷ merged_all (sym (whole ∙ after) i))
