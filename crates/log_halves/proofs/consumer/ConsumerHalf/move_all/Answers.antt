use Rattle.std.proofs.Common.{inl, inr, true≢false, length, refl, ap, ◌∙◌, arith}
use Rattle.std.specs.Prelude.{Option}
use Rattle.log_halves.specs.declared.item.Item.{Item}
use Rattle.log_halves.specs.Items.{held_in}
use Rattle.log_halves.proofs.ItemLaws.{moved_count, held_few}
use Rattle.log_halves.proofs.Numbers.{told_trans}
use Rattle.log_halves.proofs.consumer.ConsumerHalf.move_all.Goals as goal

pub returns-in-Empty-clause-moved : goal.returns-in-Empty-clause-moved
returns-in-Empty-clause-moved g c _ = inl (c.in-Empty.ensures.empty refl).1

pub loop-move-preserved-else-moved-ge-MOST : goal.loop-move-preserved-else-moved-ge-MOST
loop-move-preserved-else-moved-ge-MOST g c =
    let was = c.loop-move.invariant in
    let got = (c.in-Moved.ensures.moved _ refl).2 in
    let count = moved_count _ _ _ got.2 in
    record {
      unbroken = was.unbroken;
      later = was.later;
      regions = was.regions;
      few = c.if-moved-ge-MOST.false;
      count = omega (arith, was.count, count, got.1);
    }

pub returns-then-moved-ge-MOST-clause-moved : goal.returns-then-moved-ge-MOST-clause-moved
returns-then-moved-ge-MOST-clause-moved g c _ =
    let got = (c.in-Moved.ensures.moved _ refl).2 in
    let count = moved_count _ _ _ got.2 in
    inr (omega (arith, c.loop-move.invariant.count, count, got.1, c.if-moved-ge-MOST.true, held_few c.args.self.now.held))

pub loop-move-preserved : goal.loop-move-preserved
loop-move-preserved g c =
    let was = c.loop-move.invariant in
    let old = c.args.committer.now in
    let mid = c.loop-move.committer in
    let new = c.drain.new.committer in
    let count = moved_count _ _ _ (c.in-StageFull.ensures.full refl).0 in
    let same = c.drain.ensures.same in
    let held = ap (λ (o : Option Item). length (held_in o)) same.1 in
    let popped = ap (λ v. length v.popped) same.2 in
    record {
      unbroken = c.if-drain.ensures.unbroken refl;
      later = told_trans old.regions old.device mid.regions mid.device new.regions new.device was.later c.drain.ensures.later;
      regions = same.0 ∙ was.regions;
      few = was.few;
      count = omega (arith, was.count, count, held, popped);
    }

pub returns-then-drain-clause-moved : goal.returns-then-drain-clause-moved
returns-then-drain-clause-moved g c is = absurd (true≢false is)

pub returns-then-drain-clause-later : goal.returns-then-drain-clause-later
returns-then-drain-clause-later g c =
    let old = c.args.committer.now in
    let mid = c.loop-move.committer in
    let new = c.drain.new.committer in
    told_trans old.regions old.device mid.regions mid.device new.regions new.device c.loop-move.invariant.later c.drain.ensures.later

pub returns-in-Empty-clause-later : goal.returns-in-Empty-clause-later
returns-in-Empty-clause-later g c = c.loop-move.invariant.later

pub returns-then-moved-ge-MOST-clause-later : goal.returns-then-moved-ge-MOST-clause-later
returns-then-moved-ge-MOST-clause-later g c = c.loop-move.invariant.later

pub returns-in-Empty-clause-unbroken : goal.returns-in-Empty-clause-unbroken
returns-in-Empty-clause-unbroken g c _ = c.loop-move.invariant.unbroken

pub returns-then-moved-ge-MOST-clause-unbroken : goal.returns-then-moved-ge-MOST-clause-unbroken
returns-then-moved-ge-MOST-clause-unbroken g c _ = c.loop-move.invariant.unbroken

pub overflow_add-moved : goal.overflow_add-moved
overflow_add-moved g c = let got = c.in-Moved.ensures.moved _ refl in omega (arith, c.loop-move.invariant.few, got.1)
