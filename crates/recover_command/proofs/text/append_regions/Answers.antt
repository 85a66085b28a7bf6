use Rattle.recover_command.proofs.Printing.{lines_more, lines_whole}
use Rattle.recover_command.proofs.text.append_regions.Goals as goal

pub loop-before-preserved : goal.loop-before-preserved
loop-before-preserved c =
    lines_more c.args.regions.now c.loop-before.before c.index-regions-before.result c.args.out.now.items c.loop-before.out.items c.append_region.new.out.items
    c.loop-before-test.true c.index-regions-before.is c.loop-before.invariant c.in_ok-append_region.ensures

pub returns : goal.returns
returns c = lines_whole c.args.regions.now c.loop-before.before c.args.out.now.items c.loop-before.out.items c.loop-before-test.false c.loop-before.invariant
