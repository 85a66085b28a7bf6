use Rattle.std.proofs.Common.{length, ap, arith}
use Rattle.region_calls.proofs.Sown.{lasts_count}
use Rattle.region_calls.proofs.sowing.sow.Goals as goal

pub new-requires : goal.new-requires
new-requires c =
    let given = ap length c.as_slice.ensures.value in
    let lasts = ap length c.in_ok-lasts.ensures in
    let count = lasts_count c.deref-2.result.now in
    let found = ap length c.deref-2.ensures.value in
    (omega (arith, given, lasts, count, found, c.requires.count.0), omega (arith, given, lasts, count, found, c.requires.count.1))
