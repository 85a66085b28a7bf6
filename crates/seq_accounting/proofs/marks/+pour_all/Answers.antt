use Rattle.std.proofs.Common.{◌≡◌, ◌<◌, length, arith}
use Rattle.seq_accounting.specs.Branch.{linked}
use Rattle.seq_accounting.proofs.PourLaws.{falls_left, falls_right, poured_link}
use Rattle.seq_accounting.proofs.marks.+pour_all.Goals as goal

pub returns-in-Some : goal.returns-in-Some
returns-in-Some t c = rw c.in-Some.is (poured_link c.args.marks.now c.put_first.new.self c.pour_all.new.marks c.pour_all-in-Some.new.marks c.in-Some.mark.value c.part-left.new.self (linked c.part-left.result.0) (linked c.part-left.result.1)
    (rw c.deref_mut.ensures.value at c.part-left.ensures.alone) (rw c.deref_mut.ensures.value at c.part-left.ensures.below) c.put_first.ensures c.pour_all.ensures c.pour_all-in-Some.ensures)

pub pour_all-requires : goal.pour_all-requires
pour_all-requires t c =
    let less = falls_left c.args.link c.in-Some.mark (linked c.part-left.result.0) (linked c.part-left.result.1) c.in-Some.is (rw c.deref_mut.ensures.value at c.part-left.ensures.below) in
    let here : length (linked c.part-left.result.0) < t = omega (arith, less) in
    (here, tt)

pub pour_all-requires-in-Some : goal.pour_all-requires-in-Some
pour_all-requires-in-Some t c =
    let less = falls_right c.args.link c.in-Some.mark (linked c.part-left.result.0) (linked c.part-left.result.1) c.in-Some.is (rw c.deref_mut.ensures.value at c.part-left.ensures.below) in
    let here : length (linked c.part-left.result.1) < t = omega (arith, less) in
    (here, tt)
