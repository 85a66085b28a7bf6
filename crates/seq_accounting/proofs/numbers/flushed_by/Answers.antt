use Rattle.std.proofs.Common.{get_or, refl, arith}
use Rattle.std.proofs.lemmas.List.{get_or_default}
use Rattle.seq_accounting.proofs.OrderLaws.{nothing}
use Rattle.seq_accounting.proofs.RegionLaws.{flushed_more, flushed_all}
use Rattle.seq_accounting.proofs.numbers.flushed_by.Goals as goal

pub loop-mark-init : goal.loop-mark-init
loop-mark-init c = record {
  wide = refl;
  marked = λ k d none. absurd (omega arith);
  others = λ r none. nothing 65 r;
}

pub loop-mark-preserved : goal.loop-mark-preserved
loop-mark-preserved c =
    let marks = c.args.regions.now in
    let i = c.loop-mark.mark-index in
    let m = get_or marks i (record { region = 0; flushed = 0 }) in
    let within = c.requires.within i (record { region = 0; flushed = 0 }) c.loop-mark-test.true in
    flushed_more marks i c.loop-mark.flushed m c.requires.apart c.loop-mark-test.true (get_or_default marks i (record { region = 0; flushed = 0 }) m c.loop-mark-test.true) within c.loop-mark.invariant

pub returns-clause-flushed : goal.returns-clause-flushed
returns-clause-flushed c = flushed_all _ _ _ (omega arith) c.loop-mark.invariant
