use Rattle.group_servers.specs.Refusals.{GoesOn}
use Rattle.group_servers.proofs.Disks.{went_nowhere}
use Rattle.group_lists.proofs.Each.{both_same}
use Rattle.group_servers.proofs.Sound.{none_below, first_below, second_below, third_below}
use Rattle.group_servers.proofs.recovering.recover_each.Goals as goal

pub returns-in-Err-clause-goes_on : goal.returns-in-Err-clause-goes_on
returns-in-Err-clause-goes_on g c = record {
  first = c.recover_one.ensures.goes_on;
  second = both_same (GoesOn g.D.Disk) (went_nowhere g.D.Disk) c.args.disks.now.second;
  third = both_same (GoesOn g.D.Disk) (went_nowhere g.D.Disk) c.args.disks.now.third;
  fourth = both_same (GoesOn g.D.Disk) (went_nowhere g.D.Disk) c.args.disks.now.fourth;
}

pub returns-in-Err-clause-tells : goal.returns-in-Err-clause-tells
returns-in-Err-clause-tells g c = c.in-Err.ensures.tells

pub returns-in-Err-clause-right : goal.returns-in-Err-clause-right
returns-in-Err-clause-right g c = c.in-Err.ensures.right

pub returns-in-Err-clause-before : goal.returns-in-Err-clause-before
returns-in-Err-clause-before g c told = none_below g.D.Disk c.args.disks.now

pub returns-in-Err-recover_at-clause-goes_on : goal.returns-in-Err-recover_at-clause-goes_on
returns-in-Err-recover_at-clause-goes_on g c = record {
  first = c.recover_one.ensures.goes_on;
  second = c.recover_at.ensures.goes_on;
  third = both_same (GoesOn g.D.Disk) (went_nowhere g.D.Disk) c.args.disks.now.third;
  fourth = both_same (GoesOn g.D.Disk) (went_nowhere g.D.Disk) c.args.disks.now.fourth;
}

pub returns-in-Err-recover_at-clause-tells : goal.returns-in-Err-recover_at-clause-tells
returns-in-Err-recover_at-clause-tells g c = c.in-Err-recover_at.ensures.tells

pub returns-in-Err-recover_at-clause-right : goal.returns-in-Err-recover_at-clause-right
returns-in-Err-recover_at-clause-right g c = c.in-Err-recover_at.ensures.right

pub returns-in-Err-recover_at-clause-before : goal.returns-in-Err-recover_at-clause-before
returns-in-Err-recover_at-clause-before g c told = first_below g.D.Disk c.args.disks.now c.in-Ok.store c.recover_one.new.disk told c.in-Ok.ensures.found c.in-Ok.ensures.recovered

pub returns-in-Err-recover_at-2-clause-goes_on : goal.returns-in-Err-recover_at-2-clause-goes_on
returns-in-Err-recover_at-2-clause-goes_on g c = record {
  first = c.recover_one.ensures.goes_on;
  second = c.recover_at.ensures.goes_on;
  third = c.recover_at-2.ensures.goes_on;
  fourth = both_same (GoesOn g.D.Disk) (went_nowhere g.D.Disk) c.args.disks.now.fourth;
}

pub returns-in-Err-recover_at-2-clause-tells : goal.returns-in-Err-recover_at-2-clause-tells
returns-in-Err-recover_at-2-clause-tells g c = c.in-Err-recover_at-2.ensures.tells

pub returns-in-Err-recover_at-2-clause-right : goal.returns-in-Err-recover_at-2-clause-right
returns-in-Err-recover_at-2-clause-right g c = c.in-Err-recover_at-2.ensures.right

pub returns-in-Err-recover_at-2-clause-before : goal.returns-in-Err-recover_at-2-clause-before
returns-in-Err-recover_at-2-clause-before g c told =
    second_below g.D.Disk c.args.disks.now (first_below g.D.Disk c.args.disks.now c.in-Ok.store c.recover_one.new.disk told c.in-Ok.ensures.found c.in-Ok.ensures.recovered)
    c.in-Ok-recover_at.store c.recover_at.new.disk told c.in-Ok-recover_at.ensures.found c.in-Ok-recover_at.ensures.recovered

pub returns-in-Err-recover_at-3-clause-goes_on : goal.returns-in-Err-recover_at-3-clause-goes_on
returns-in-Err-recover_at-3-clause-goes_on g c = record {
  first = c.recover_one.ensures.goes_on;
  second = c.recover_at.ensures.goes_on;
  third = c.recover_at-2.ensures.goes_on;
  fourth = c.recover_at-3.ensures.goes_on;
}

pub returns-in-Err-recover_at-3-clause-tells : goal.returns-in-Err-recover_at-3-clause-tells
returns-in-Err-recover_at-3-clause-tells g c = c.in-Err-recover_at-3.ensures.tells

pub returns-in-Err-recover_at-3-clause-right : goal.returns-in-Err-recover_at-3-clause-right
returns-in-Err-recover_at-3-clause-right g c = c.in-Err-recover_at-3.ensures.right

pub returns-in-Err-recover_at-3-clause-before : goal.returns-in-Err-recover_at-3-clause-before
returns-in-Err-recover_at-3-clause-before g c told =
    third_below g.D.Disk c.args.disks.now (second_below g.D.Disk c.args.disks.now (first_below g.D.Disk c.args.disks.now c.in-Ok.store c.recover_one.new.disk told c.in-Ok.ensures.found c.in-Ok.ensures.recovered)
    c.in-Ok-recover_at.store c.recover_at.new.disk told c.in-Ok-recover_at.ensures.found c.in-Ok-recover_at.ensures.recovered)
    c.in-Ok-recover_at-2.store c.recover_at-2.new.disk told c.in-Ok-recover_at-2.ensures.found c.in-Ok-recover_at-2.ensures.recovered

pub returns-clause-goes_on : goal.returns-clause-goes_on
returns-clause-goes_on g c = record {
  first = c.recover_one.ensures.goes_on;
  second = c.recover_at.ensures.goes_on;
  third = c.recover_at-2.ensures.goes_on;
  fourth = c.recover_at-3.ensures.goes_on;
}

pub returns-clause-found : goal.returns-clause-found
returns-clause-found g c = record {
  first = c.in-Ok.ensures.found;
  second = c.in-Ok-recover_at.ensures.found;
  third = c.in-Ok-recover_at-2.ensures.found;
  fourth = c.in-Ok-recover_at-3.ensures.found;
}

pub returns-clause-recovered : goal.returns-clause-recovered
returns-clause-recovered g c = record {
  first = c.in-Ok.ensures.recovered;
  second = c.in-Ok-recover_at.ensures.recovered;
  third = c.in-Ok-recover_at-2.ensures.recovered;
  fourth = c.in-Ok-recover_at-3.ensures.recovered;
}
