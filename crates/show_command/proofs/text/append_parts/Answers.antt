use Rattle.std.proofs.Common.{◌∷◌, [], length, ap, arith, length-append}
use Rattle.show_command.proofs.RegionLaws.{text_more}
use Rattle.show_command.proofs.text.append_parts.Goals as goal

pub loop-cells-preserved : goal.loop-cells-preserved
loop-cells-preserved c = record {
  text = text_more c.args.out.now.items c.loop-cells.out.items c.append_part.new.out.items c.loop-cells.yielded c.in-Some.cells c.loop-cells.region
      c.loop-cells.invariant.text c.loop-cells.invariant.region c.in_ok-append_part.ensures;
  region = omega (arith, length-append c.loop-cells.yielded (c.in-Some.cells ∷ []), c.loop-cells.invariant.region);
  count = omega (arith, length-append c.loop-cells.yielded (c.in-Some.cells ∷ []), c.loop-cells.invariant.count, ap length c.in-Some.ensures.steps.0);
}
