use Rattle.std.proofs.Common.{◌≡◌, rules}
use Rattle.std.specs.FinMap.{len}
use Rattle.load_command.proofs.Counted.{region_more, all_regions}
use Rattle.load_command.proofs.counting.count_cells.Goals as goal

pub loop-region-preserved : goal.loop-region-preserved
loop-region-preserved c =
    let cells : c.len.result ≡ len c.region-item.result.base.content = search rules in
    region_more c.args.regions.now c.loop-region.region-index c.loop-region.total c.saturating_add-total.result c.region-item.result c.loop-region-test.true c.region-item.is c.loop-region.invariant
    (rw (← cells) c.saturating_add-total.ensures)

pub returns : goal.returns
returns c = all_regions c.args.regions.now c.loop-region.region-index c.loop-region.total c.loop-region-test.false c.loop-region.invariant
