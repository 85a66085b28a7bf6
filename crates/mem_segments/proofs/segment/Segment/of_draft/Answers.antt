use Rattle.std.proofs.Common.{sym, ap, subst, ◌∙◌}
use Rattle.cell_model.specs.Merge.{IsRising, content_of}
use Rattle.mem_segments.proofs.Drafts.{kept, rises_anew, content_anew}
use Rattle.mem_segments.proofs.segment.Segment.of_draft.Goals as goal

pub invariant_of-result : goal.invariant_of-result
invariant_of-result c =
    subst IsRising (sym (kept c.args.number _ c.renumber.new.rows _ c.deref_mut.result.now c.renumber.ensures c.deref_mut.ensures.len))
    (rises_anew c.args.number c.renumber.new.rows c.deref_mut.result.now c.draft.inside.rows.items c.renumber.ensures c.deref_mut.ensures.value c.draft.invariant.0 c.draft.invariant.1)

pub returns : goal.returns
returns c =
    ap content_of (kept c.args.number _ c.renumber.new.rows _ c.deref_mut.result.now c.renumber.ensures c.deref_mut.ensures.len)
    ∙ content_anew c.args.number c.renumber.new.rows c.deref_mut.result.now c.draft.inside.rows.items c.args.draft c.renumber.ensures c.deref_mut.ensures.value c.draft.invariant.0 c.draft.invariant.1 c.draft.view_is
