use Rattle.std.proofs.Common.{true≢false, length, refl, sym, ap, ◌∙◌, subst, arith}
use Rattle.log_device.specs.Whole.{IsBroken}
use Rattle.log_halves.proofs.Numbers.{told_trans}
use Rattle.log_halves.proofs.consumer.ConsumerHalf.move_up_to.Goals as goal

pub returns-then-synced-upto-clause-later : goal.returns-then-synced-upto-clause-later
returns-then-synced-upto-clause-later g c = c.loop-turn.invariant.later

pub loop-turn-preserved-in-Committed : goal.loop-turn-preserved-in-Committed
loop-turn-preserved-in-Committed g c =
    let was = c.loop-turn.invariant in
    let old = c.args.committer.now in
    let mid = c.loop-turn.committer in
    let new = c.commit_one.new.self in
    let same = ap (λ v. length v.popped) c.push_chain.ensures.same in
    record {
      unbroken = (c.in-Committed.ensures.committed _ refl).3;
      later = told_trans old.regions old.device mid.regions mid.device new.regions new.device was.later c.commit_one.ensures.later;
      regions = c.commit_one.ensures.same ∙ was.regions;
      grows = omega (arith, was.grows, c.move_items-moves.ensures.grows, same);
    }

pub loop-turn-preserved : goal.loop-turn-preserved
loop-turn-preserved g c =
    let was = c.loop-turn.invariant in
    let old = c.args.committer.now in
    let mid = c.loop-turn.committer in
    let new = c.commit_one.new.self in
    let same = ap (λ v. length v.popped) c.push_chain.ensures.same in
    record {
      unbroken = subst (λ d. IsBroken d → ⊥) (sym (c.in-Clean.ensures.clean refl).1) was.unbroken;
      later = told_trans old.regions old.device mid.regions mid.device new.regions new.device was.later c.commit_one.ensures.later;
      regions = c.commit_one.ensures.same ∙ was.regions;
      grows = omega (arith, was.grows, c.move_items-moves.ensures.grows, same);
    }

pub returns-in-WriteFault-clause-done : goal.returns-in-WriteFault-clause-done
returns-in-WriteFault-clause-done g c is = absurd (true≢false is)

pub returns-in-WriteFault-clause-grows : goal.returns-in-WriteFault-clause-grows
returns-in-WriteFault-clause-grows g c =
    let same = ap (λ v. length v.popped) c.push_chain.ensures.same in
    omega (arith, c.loop-turn.invariant.grows, c.move_items-moves.ensures.grows, same)

pub returns-in-WriteFault-clause-later : goal.returns-in-WriteFault-clause-later
returns-in-WriteFault-clause-later g c =
    let old = c.args.committer.now in
    let mid = c.loop-turn.committer in
    let new = c.commit_one.new.self in
    told_trans old.regions old.device mid.regions mid.device new.regions new.device c.loop-turn.invariant.later c.commit_one.ensures.later
