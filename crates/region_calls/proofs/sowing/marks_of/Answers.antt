use Rattle.std.proofs.Common.{◌≡◌, ◌+◌, List, [], ◌∷◌, ◌++◌, length, take, sym, ap, ◌∙◌, subst, arith}
use Rattle.std.proofs.lemmas.List.{take_more, length-append, length-take-le}
use Rattle.region_replay.specs.Ready.{Found}
use Rattle.region_calls.specs.Seeds.{lasts_of, bases_found, marks_from, flushed_of}
use Rattle.region_calls.proofs.Sown.{AreWithin, marks_push, within_push, flushed_push, take_over}
use Rattle.region_calls.proofs.Marks.{are_regions}
use Rattle.region_calls.proofs.sowing.marks_of.Goals as goal

pub loop-one-preserved : goal.loop-one-preserved
loop-one-preserved c =
    let xs = c.args.found.now in
    let i = c.loop-one.one-index in
    let x = c.one-item.result in
    let m = c.mark_of.result in
    let inv = c.loop-one.invariant in
    let pushed = c.push_reserved.ensures.items in
    let more : take (i + 1) xs ≡ take i xs ++ x ∷ [] = take_more xs i x c.loop-one-test.true ∙ ap (λ (y : Found). take i xs ++ y ∷ []) (sym c.one-item.is) in
    let taken = length-take-le i xs c.loop-one.auto.one-index-end in
    record {
      marks = pushed ∙ (λ j. inv.marks j ++ c.mark_of.ensures.mark j ∷ []) ∙ sym (marks_push 1 (take i xs) x _ (omega (arith, c.len.ensures, c.loop-one.marks.ok.0, inv.count, taken))) ∙ ap (marks_from 1) (sym more);
      within = subst AreWithin (sym pushed) (within_push c.loop-one.marks.items m inv.within c.mark_of.ensures.within);
      flushed = ap flushed_of pushed ∙ flushed_push c.loop-one.marks.items m (take i xs) x inv.flushed c.mark_of.ensures.last ∙ ap (λ (l : List Found). lasts_of (bases_found l)) (sym more);
      count = ap length pushed ∙ omega (arith, length-append c.loop-one.marks.items (m ∷ []), inv.count);
      room = omega (arith, inv.room, c.push_reserved.ensures.capacity);
    }

pub returns-clause-regions : goal.returns-clause-regions
returns-clause-regions c = are_regions c.loop-one.marks.items _ c.loop-one.invariant.marks c.loop-one.invariant.within

pub returns-clause-marks : goal.returns-clause-marks
returns-clause-marks c = c.loop-one.invariant.marks ∙ ap (marks_from 1) (take_over c.loop-one.one-index c.args.found.now c.loop-one-test.false)

pub returns-clause-flushed : goal.returns-clause-flushed
returns-clause-flushed c = c.loop-one.invariant.flushed ∙ ap (λ (l : List Found). lasts_of (bases_found l)) (take_over c.loop-one.one-index c.args.found.now c.loop-one-test.false)
