use Rattle.mem_segments.proofs.Steps.{rises, holds_both}
use Rattle.mem_segments.proofs.merging.merge.Goals as goal

pub invariant_of-result : goal.invariant_of-result
invariant_of-result c = rises _ _ _ _ _ c.in_ok-rows.ensures c.deref.ensures.value c.deref-2.ensures.value c.a.invariant c.b.invariant

pub returns : goal.returns
returns c = holds_both _ _ _ _ _ _ _ c.in_ok-rows.ensures c.deref.ensures.value c.deref-2.ensures.value c.a.invariant c.b.invariant c.a.view_is c.b.view_is
