use Rattle.std.proofs.Common.{refl}
use Rattle.group_servers.proofs.shutting.close_one.Goals as goal

pub close-requires : goal.close-requires
close-requires g c = record { back = c.requires }

pub into_disk-requires : goal.into_disk-requires
into_disk-requires g c =
    let same = c.in-Err.ensures.same in
    rw (same.0, same.1, same.2) (record { back = c.requires })

pub returns-in-Ok : goal.returns-in-Ok
returns-in-Ok g c =
    let e = c.in-Ok.ensures in
    record { numbers = e.numbers; each = e.regions; survives = e.survives; survived = e.survived; elapsed = e.elapsed; leaves = e.leaves; seen_broken = e.seen_broken; cause = e.cause; later = e.later }

pub returns-in-Err : goal.returns-in-Err
returns-in-Err g c =
    let e = c.into_disk.ensures in
    let same = c.in-Err.ensures.same in
    (refl, rw (← same.1) (record { left = e.left; elapsed = e.elapsed; leaves = e.leaves; later = e.faults }))
