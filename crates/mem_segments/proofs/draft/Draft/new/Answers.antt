use Rattle.std.specs.Arc.{arc_value}
use Rattle.mem_segments.proofs.Drafts.{at_zero, is_draft}
use Rattle.mem_segments.proofs.draft.Draft.new.Goals as goal

pub invariant_of-result : goal.invariant_of-result
invariant_of-result c = (
  c.in_ok-rows-2.ensures.rising,
  at_zero c.in_ok-rows-2.rows.items c.in_ok-rows.rows.items (arc_value c.args.batch.now).cells c.in_ok-rows-2.ensures.rising
      c.in_ok-rows-2.ensures.content c.in_ok-rows.ensures,
)

pub returns : goal.returns
returns c =
    is_draft c.in_ok-rows-2.rows.items c.in_ok-rows.rows.items (arc_value c.args.batch.now).cells c.in_ok-rows-2.ensures.rising
    c.in_ok-rows-2.ensures.content c.in_ok-rows.ensures
