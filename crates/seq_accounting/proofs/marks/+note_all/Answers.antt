use Rattle.std.proofs.Common.{◌<◌, length, arith}
use Rattle.seq_accounting.specs.Branch.{linked}
use Rattle.seq_accounting.proofs.PourLaws.{falls_left, falls_right}
use Rattle.seq_accounting.proofs.marks.+note_all.Goals as goal

pub note_all-requires : goal.note_all-requires
note_all-requires t c =
    let less = falls_left c.args.link c.in-Some.mark (linked c.part-left.result.0) (linked c.part-left.result.1) c.in-Some.is (rw c.deref_mut.ensures.value at c.part-left.ensures.below) in
    let here : length (linked c.part-left.result.0) < t = omega (arith, less) in
    (here, tt)

pub note_all-requires-in-Some : goal.note_all-requires-in-Some
note_all-requires-in-Some t c =
    let less = falls_right c.args.link c.in-Some.mark (linked c.part-left.result.0) (linked c.part-left.result.1) c.in-Some.is (rw c.deref_mut.ensures.value at c.part-left.ensures.below) in
    let here : length (linked c.part-left.result.1) < t = omega (arith, less) in
    (here, tt)
