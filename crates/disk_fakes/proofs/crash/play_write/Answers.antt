use Rattle.std.proofs.Common.{length, ap, arith}
use Rattle.std.proofs.lemmas.Result.{on_ok_weaker}
use Rattle.disk_fakes.specs.Table.{files_in}
use Rattle.disk_fakes.specs.Candidate.{WritesWithin}
use Rattle.disk_fakes.proofs.Played.{wrote}
use Rattle.disk_fakes.proofs.crash.play_write.Goals as goal

pub returns-then-is_pinned : goal.returns-then-is_pinned
returns-then-is_pinned c =
    on_ok_weaker c.write_within.result
    (λ (within : WritesWithin c.args.name c.args.at c.deref.result.now (files_in c.args.image.now) (files_in c.write_within.new.self)).
    wrote c.args.name c.args.at c.args.bytes.now c.args.rest.now (files_in c.args.image.now) (files_in c.write_within.new.self) c.deref.result.now within
    (omega (arith, ap length c.deref.ensures.value)) (λ pin. c.deref.ensures.value))
    c.write_within.ensures

pub returns : goal.returns
returns c =
    on_ok_weaker c.write_within-2.result
    (λ (within : WritesWithin c.args.name c.args.at c.deref-3.result.now (files_in c.args.image.now) (files_in c.write_within-2.new.self)).
    wrote c.args.name c.args.at c.args.bytes.now c.args.rest.now (files_in c.args.image.now) (files_in c.write_within-2.new.self) c.deref-3.result.now within
    (omega (arith, ap length c.deref-3.ensures.value, ap length c.deref-2.ensures.value, c.in_ok-piece.ensures)) (λ pin. absurd (c.is_pinned.ensures c.if-is_pinned.false pin)))
    c.write_within-2.ensures
