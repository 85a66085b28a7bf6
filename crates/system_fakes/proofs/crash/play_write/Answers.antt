use Rattle.std.proofs.Common.{◌≤◌, length, ap, arith}
use Rattle.std.proofs.lemmas.Result.{on_ok_weaker}
use Rattle.system_fakes.specs.declared.op.Op.TheVariants.{Write, Tear}
use Rattle.system_fakes.specs.Held.{bytes_of}
use Rattle.system_fakes.specs.Table.{held_in}
use Rattle.system_fakes.proofs.Played.{plays, plays_to, write_done, write_lost, tear_done, tear_lost}
use Rattle.system_fakes.proofs.crash.play_write.Goals as goal

pub returns-then-at-bytes-clause-written : goal.returns-then-at-bytes-clause-written
returns-then-at-bytes-clause-written c truth =
    let shorter : length c.deref-then-at-bytes.result.now ≤ length c.args.bytes.now.items = omega (arith, ap length c.deref.ensures.value, ap length c.deref-then-at-bytes.ensures.value, c.in_ok-piece.ensures) in
    let reaches : c.args.at ≤ length (bytes_of (held_in c.args.image.now) c.args.inode) = omega (arith, ap length c.bytes.ensures, c.if-at-bytes.true) in
    on_ok_weaker c.write.result (λ is. plays_to (Write c.args.inode c.args.at c.args.bytes.now) truth _ _ _ is
    (λ s fair same was. write_done s fair _ was c.args.inode c.args.at c.args.bytes.now c.deref-then-at-bytes.result.now shorter (c.has.ensures.0 c.if-has.true) reaches)) c.write.ensures.written

pub returns-then-at-bytes-clause-torn : goal.returns-then-at-bytes-clause-torn
returns-then-at-bytes-clause-torn c truth =
    let shorter : length c.deref-then-at-bytes.result.now ≤ length c.args.bytes.now.items = omega (arith, ap length c.deref.ensures.value, ap length c.deref-then-at-bytes.ensures.value, c.in_ok-piece.ensures) in
    let reaches : c.args.at ≤ length (bytes_of (held_in c.args.image.now) c.args.inode) = omega (arith, ap length c.bytes.ensures, c.if-at-bytes.true) in
    on_ok_weaker c.write.result (λ is. plays_to (Tear c.args.inode c.args.at c.args.bytes.now) truth _ _ _ is
    (λ s fair same was. tear_done s fair _ was c.args.inode c.args.at c.args.bytes.now c.deref-then-at-bytes.result.now shorter (c.has.ensures.0 c.if-has.true) reaches)) c.write.ensures.written

pub returns-clause-written : goal.returns-clause-written
returns-clause-written c truth = plays (Write c.args.inode c.args.at c.args.bytes.now) truth _ _ (λ s fair same was. write_lost s fair _ was c.args.inode c.args.at c.args.bytes.now)

pub returns-clause-torn : goal.returns-clause-torn
returns-clause-torn c truth = plays (Tear c.args.inode c.args.at c.args.bytes.now) truth _ _ (λ s fair same was. tear_lost s fair _ was c.args.inode c.args.at c.args.bytes.now)
