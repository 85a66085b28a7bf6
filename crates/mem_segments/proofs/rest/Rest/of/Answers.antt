use Rattle.std.proofs.Common.{length, sym, ap, subst, ◌∙◌}
use Rattle.std.specs.Prelude.{filter}
use Rattle.std.proofs.lemmas.Slice.{between_to_end}
use Rattle.std.proofs.Common.{arith}
use Rattle.cell_model.specs.Merge.{IsRising}
use Rattle.region_model.specs.Journal.{is_in_range}
use Rattle.mem_segments.proofs.Contents.{rising-cells_of}
use Rattle.mem_segments.proofs.Ranges.{upper_rises, to_a_bound}
use Rattle.mem_segments.proofs.rest.Rest.of.Goals as goal

pub before-first-requires : goal.before-first-requires
before-first-requires c = subst IsRising (sym c.rows-rows.ensures) (rising-cells_of c.args.segment.now)

pub before-end-requires : goal.before-end-requires
before-end-requires c =
    let rows = c.rows-rows.result.now in
    upper_rises c.args.from.now rows _ (subst IsRising (sym c.rows-rows.ensures) (rising-cells_of c.args.segment.now))
    (between_to_end rows c.before-first.result (length rows) (omega arith) ∙ c.before-first.ensures.others)

pub returns : goal.returns
returns c =
    let rows = c.rows-rows.result.now in
    to_a_bound c.args.from.now c.args.to.now rows _ _ (sym c.is_empty.ensures ∙ c.if-is_empty.false)
    (between_to_end rows c.before-first.result (length rows) (omega arith) ∙ c.before-first.ensures.others) c.before-end.ensures.below
    ∙ ap (filter (is_in_range c.args.from.now c.args.to.now)) c.rows-rows.ensures
