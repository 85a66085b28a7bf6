use Rattle.std.proofs.Common.{refl}
use Rattle.groups_run.proofs.Joins.{lists_same, chosen_from, none_from, many_from}
use Rattle.groups_run.proofs.closing.join.Goals as goal

pub choose-requires-clause-count : goal.choose-requires-clause-count
choose-requires-clause-count g c =
    many_from c.args.ends c.parts_of-disk_2.result.1 c.parts_of-disk_3.result.1 c.parts_of-disk_4.result.1
    c.parts_of-disk_2.ensures.regions c.parts_of-disk_3.ensures.regions c.parts_of-disk_4.ensures.regions c.requires.count

pub returns : goal.returns
returns g c =
    let same = lists_same c.args.ends c.parts_of-disk_2.result.1 c.parts_of-disk_3.result.1 c.parts_of-disk_4.result.1
    c.parts_of-disk_2.ensures.regions c.parts_of-disk_3.ensures.regions c.parts_of-disk_4.ensures.regions in
    record {
      disks = rw (c.of-disks.ensures, c.parts_of-disk_2.ensures.disk, c.parts_of-disk_3.ensures.disk, c.parts_of-disk_4.ensures.disk) refl;
      broken = rw (← c.parts_of-disk_2.ensures.broken, ← c.parts_of-disk_3.ensures.broken, ← c.parts_of-disk_4.ensures.broken) c.any_of.ensures;
      regions = chosen_from c.args.count c.choose.result _ _ same c.choose.ensures.some;
      none = none_from c.choose.result _ _ same c.choose.ensures.none;
    }
