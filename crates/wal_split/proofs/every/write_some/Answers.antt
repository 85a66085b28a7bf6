use Rattle.std.proofs.Common.{◌+◌, ◌*◌, length, arith}
use Rattle.disk_images.proofs.Moments.{at_once, more_time}
use Rattle.recovery_laws.specs.Alike.{AllAlike}
use Rattle.wal_split.proofs.every.write_some.Goals as goal

pub returns-then-is_empty-clause-any_moment : goal.returns-then-is_empty-clause-any_moment
returns-then-is_empty-clause-any_moment g c told base held logged =
    let v = g.D.Disk.view c.args.disk.now in
    more_time (AllAlike base) 0 (7 + 4 * length c.args.entries.now) v v (omega arith) (at_once (AllAlike base) v held.alike)
