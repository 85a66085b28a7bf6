use Rattle.handler_threads.specs.region_calls.Store.{disk_now}
use Rattle.group_servers.specs.Recovering.{IsRecovered}
use Rattle.group_lists.proofs.Each.{both_weaker}
use Rattle.group_servers.specs.Beginning.{HasGoneOn, IsOpenedFrom, IsUnbegunFrom, TellsFrom}
use Rattle.group_servers.proofs.Begins.{at_some, gone_to, of_mapped, of_right, of_weaker}
use Rattle.group_servers.proofs.beginning.begin_each.Goals as goal

pub returns-in-Err-clause-goes_on : goal.returns-in-Err-clause-goes_on
returns-in-Err-clause-goes_on g c =
    rw (c.refused.ensures, c.of-left.ensures)
    (record {
      first = c.in-Err.ensures.refused.goes_on;
      second = both_weaker (IsRecovered g.D.Disk) (HasGoneOn g.D.Disk) (λ s d r. r.goes_on) c.args.stores.second c.args.disks.second c.requires.recovered.second;
      third = both_weaker (IsRecovered g.D.Disk) (HasGoneOn g.D.Disk) (λ s d r. r.goes_on) c.args.stores.third c.args.disks.third c.requires.recovered.third;
      fourth = both_weaker (IsRecovered g.D.Disk) (HasGoneOn g.D.Disk) (λ s d r. r.goes_on) c.args.stores.fourth c.args.disks.fourth c.requires.recovered.fourth;
    })

pub returns-in-Err-clause-tells : goal.returns-in-Err-clause-tells
returns-in-Err-clause-tells g c =
    rw (c.refused.ensures, c.of-left.ensures) c.in-Err.ensures.refused.tells

pub returns-in-Err-clause-right : goal.returns-in-Err-clause-right
returns-in-Err-clause-right g c = rw c.refused.ensures c.in-Err.ensures.refused.right

pub returns-in-Err-begin_at-clause-goes_on : goal.returns-in-Err-begin_at-clause-goes_on
returns-in-Err-begin_at-clause-goes_on g c =
    rw (c.refused-in-Err-begin_at.ensures, c.of-left-in-Err-begin_at.ensures)
    (record {
      first = gone_to g.D.Disk c.args.stores.first.found.value (disk_now c.in-Ok.opened) c.into_disk-first.result c.into_disk-first.ensures c.in-Ok.ensures.opened.goes_on;
      second = at_some (IsUnbegunFrom g.D.Disk) (HasGoneOn g.D.Disk) c.args.stores.second c.in-Err-begin_at.field-0 c.in-Err-begin_at.field-0.disk (λ s e. e.goes_on) c.in-Err-begin_at.ensures.refused;
      third = both_weaker (IsRecovered g.D.Disk) (HasGoneOn g.D.Disk) (λ s d r. r.goes_on) c.args.stores.third c.args.disks.third c.requires.recovered.third;
      fourth = both_weaker (IsRecovered g.D.Disk) (HasGoneOn g.D.Disk) (λ s d r. r.goes_on) c.args.stores.fourth c.args.disks.fourth c.requires.recovered.fourth;
    })

pub returns-in-Err-begin_at-clause-tells : goal.returns-in-Err-begin_at-clause-tells
returns-in-Err-begin_at-clause-tells g c =
    rw (c.refused-in-Err-begin_at.ensures, c.of-left-in-Err-begin_at.ensures) (of_weaker (IsUnbegunFrom g.D.Disk) (TellsFrom g.D.Disk c.in-Err-begin_at.field-0.why) c.args.stores.second c.in-Err-begin_at.field-0 c.in-Err-begin_at.field-0.disk (λ s e. e.tells) c.in-Err-begin_at.ensures.refused)

pub returns-in-Err-begin_at-clause-right : goal.returns-in-Err-begin_at-clause-right
returns-in-Err-begin_at-clause-right g c = rw c.refused-in-Err-begin_at.ensures (of_right g.D.Disk c.args.stores.second c.in-Err-begin_at.field-0 c.in-Err-begin_at.ensures.refused)

pub returns-in-Err-begin_at-2-clause-goes_on : goal.returns-in-Err-begin_at-2-clause-goes_on
returns-in-Err-begin_at-2-clause-goes_on g c =
    rw (c.refused-in-Err-begin_at-2.ensures, c.of-left-in-Err-begin_at-2.ensures)
    (record {
      first = gone_to g.D.Disk c.args.stores.first.found.value (disk_now c.in-Ok.opened) c.into_disk-first-in-Err-begin_at-2.result c.into_disk-first-in-Err-begin_at-2.ensures c.in-Ok.ensures.opened.goes_on;
      second = rw c.disk_at-second.ensures (of_mapped (IsOpenedFrom g.D.Disk c.args.regions c.args.handlers) (HasGoneOn g.D.Disk) disk_now (λ s o is. is.goes_on) c.args.stores.second c.in-Ok-begin_at.opened c.in-Ok-begin_at.ensures.opened);
      third = at_some (IsUnbegunFrom g.D.Disk) (HasGoneOn g.D.Disk) c.args.stores.third c.in-Err-begin_at-2.field-0 c.in-Err-begin_at-2.field-0.disk (λ s e. e.goes_on) c.in-Err-begin_at-2.ensures.refused;
      fourth = both_weaker (IsRecovered g.D.Disk) (HasGoneOn g.D.Disk) (λ s d r. r.goes_on) c.args.stores.fourth c.args.disks.fourth c.requires.recovered.fourth;
    })

pub returns-in-Err-begin_at-2-clause-tells : goal.returns-in-Err-begin_at-2-clause-tells
returns-in-Err-begin_at-2-clause-tells g c =
    rw (c.refused-in-Err-begin_at-2.ensures, c.of-left-in-Err-begin_at-2.ensures) (of_weaker (IsUnbegunFrom g.D.Disk) (TellsFrom g.D.Disk c.in-Err-begin_at-2.field-0.why) c.args.stores.third c.in-Err-begin_at-2.field-0 c.in-Err-begin_at-2.field-0.disk (λ s e. e.tells) c.in-Err-begin_at-2.ensures.refused)

pub returns-in-Err-begin_at-2-clause-right : goal.returns-in-Err-begin_at-2-clause-right
returns-in-Err-begin_at-2-clause-right g c = rw c.refused-in-Err-begin_at-2.ensures (of_right g.D.Disk c.args.stores.third c.in-Err-begin_at-2.field-0 c.in-Err-begin_at-2.ensures.refused)

pub returns-in-Err-begin_at-3-clause-goes_on : goal.returns-in-Err-begin_at-3-clause-goes_on
returns-in-Err-begin_at-3-clause-goes_on g c =
    rw (c.refused-in-Err-begin_at-3.ensures, c.of-left-in-Err-begin_at-3.ensures)
    (record {
      first = gone_to g.D.Disk c.args.stores.first.found.value (disk_now c.in-Ok.opened) c.into_disk-first-in-Err-begin_at-3.result c.into_disk-first-in-Err-begin_at-3.ensures c.in-Ok.ensures.opened.goes_on;
      second = rw c.disk_at-second-in-Err-begin_at-3.ensures (of_mapped (IsOpenedFrom g.D.Disk c.args.regions c.args.handlers) (HasGoneOn g.D.Disk) disk_now (λ s o is. is.goes_on) c.args.stores.second c.in-Ok-begin_at.opened c.in-Ok-begin_at.ensures.opened);
      third = rw c.disk_at-third.ensures (of_mapped (IsOpenedFrom g.D.Disk c.args.regions c.args.handlers) (HasGoneOn g.D.Disk) disk_now (λ s o is. is.goes_on) c.args.stores.third c.in-Ok-begin_at-2.opened c.in-Ok-begin_at-2.ensures.opened);
      fourth = at_some (IsUnbegunFrom g.D.Disk) (HasGoneOn g.D.Disk) c.args.stores.fourth c.in-Err-begin_at-3.field-0 c.in-Err-begin_at-3.field-0.disk (λ s e. e.goes_on) c.in-Err-begin_at-3.ensures.refused;
    })

pub returns-in-Err-begin_at-3-clause-tells : goal.returns-in-Err-begin_at-3-clause-tells
returns-in-Err-begin_at-3-clause-tells g c =
    rw (c.refused-in-Err-begin_at-3.ensures, c.of-left-in-Err-begin_at-3.ensures) (of_weaker (IsUnbegunFrom g.D.Disk) (TellsFrom g.D.Disk c.in-Err-begin_at-3.field-0.why) c.args.stores.fourth c.in-Err-begin_at-3.field-0 c.in-Err-begin_at-3.field-0.disk (λ s e. e.tells) c.in-Err-begin_at-3.ensures.refused)

pub returns-in-Err-begin_at-3-clause-right : goal.returns-in-Err-begin_at-3-clause-right
returns-in-Err-begin_at-3-clause-right g c = rw c.refused-in-Err-begin_at-3.ensures (of_right g.D.Disk c.args.stores.fourth c.in-Err-begin_at-3.field-0 c.in-Err-begin_at-3.ensures.refused)

pub begin_at-requires-clause-recovered : goal.begin_at-requires-clause-recovered
begin_at-requires-clause-recovered g c = c.requires.recovered.second

pub begin_at-requires-2-clause-recovered : goal.begin_at-requires-2-clause-recovered
begin_at-requires-2-clause-recovered g c = c.requires.recovered.third

pub begin_at-requires-3-clause-recovered : goal.begin_at-requires-3-clause-recovered
begin_at-requires-3-clause-recovered g c = c.requires.recovered.fourth

pub begin_one-requires-clause-recovered : goal.begin_one-requires-clause-recovered
begin_one-requires-clause-recovered g c = c.requires.recovered.first

pub returns-in-Ok-begin_at-3-clause-opened : goal.returns-in-Ok-begin_at-3-clause-opened
returns-in-Ok-begin_at-3-clause-opened g c = record {
  first = c.in-Ok.ensures.opened;
  second = c.in-Ok-begin_at.ensures.opened;
  third = c.in-Ok-begin_at-2.ensures.opened;
  fourth = c.in-Ok-begin_at-3.ensures.opened;
}

pub returns-in-Ok-begin_at-3-clause-goes_on : goal.returns-in-Ok-begin_at-3-clause-goes_on
returns-in-Ok-begin_at-3-clause-goes_on g c = record {
  first = c.in-Ok.ensures.opened.goes_on;
  second = of_mapped (IsOpenedFrom g.D.Disk c.args.regions c.args.handlers) (HasGoneOn g.D.Disk) disk_now (λ s o is. is.goes_on) c.args.stores.second c.in-Ok-begin_at.opened c.in-Ok-begin_at.ensures.opened;
  third = of_mapped (IsOpenedFrom g.D.Disk c.args.regions c.args.handlers) (HasGoneOn g.D.Disk) disk_now (λ s o is. is.goes_on) c.args.stores.third c.in-Ok-begin_at-2.opened c.in-Ok-begin_at-2.ensures.opened;
  fourth = of_mapped (IsOpenedFrom g.D.Disk c.args.regions c.args.handlers) (HasGoneOn g.D.Disk) disk_now (λ s o is. is.goes_on) c.args.stores.fourth c.in-Ok-begin_at-3.fourth c.in-Ok-begin_at-3.ensures.opened;
}
