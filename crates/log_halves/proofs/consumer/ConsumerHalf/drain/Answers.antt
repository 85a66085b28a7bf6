use Rattle.std.proofs.Common.{true≢false, refl, sym, ◌∙◌, subst}
use Rattle.std.proofs.lemmas.List.{nil_from_length}
use Rattle.log_device.specs.Whole.{IsBroken}
use Rattle.log_halves.specs.Moves.{WasFull}
use Rattle.log_halves.proofs.Numbers.{told_trans}
use Rattle.log_halves.proofs.consumer.ConsumerHalf.drain.Goals as goal

pub loop-chain-preserved-in-Committed : goal.loop-chain-preserved-in-Committed
loop-chain-preserved-in-Committed g c =
    let was = c.loop-chain.invariant in
    let old = c.args.committer.now in
    let mid = c.loop-chain.committer in
    let new = c.commit_one.new.self in
    record {
      unbroken = (c.in-Committed.ensures.committed _ refl).3;
      later = told_trans old.regions old.device mid.regions mid.device new.regions new.device was.later c.commit_one.ensures.later;
      regions = c.commit_one.ensures.same ∙ was.regions;
      held = c.push_chain.ensures.handed.held ∙ was.held;
      popped = c.push_chain.ensures.same ∙ was.popped;
    }

pub loop-chain-preserved : goal.loop-chain-preserved
loop-chain-preserved g c =
    let was = c.loop-chain.invariant in
    let old = c.args.committer.now in
    let mid = c.loop-chain.committer in
    let new = c.commit_one.new.self in
    record {
      unbroken = subst (λ d. IsBroken d → ⊥) (sym (c.in-Clean.ensures.clean refl).1) was.unbroken;
      later = told_trans old.regions old.device mid.regions mid.device new.regions new.device was.later c.commit_one.ensures.later;
      regions = c.commit_one.ensures.same ∙ was.regions;
      held = c.push_chain.ensures.handed.held ∙ was.held;
      popped = c.push_chain.ensures.same ∙ was.popped;
    }

pub returns-then-len-eq0-clause-unbroken : goal.returns-then-len-eq0-clause-unbroken
returns-then-len-eq0-clause-unbroken g c _ = subst (λ d. IsBroken d → ⊥) (sym (c.in-Clean.ensures.clean refl).1) c.loop-chain.invariant.unbroken

pub returns-then-len-eq0-clause-done : goal.returns-then-len-eq0-clause-done
returns-then-len-eq0-clause-done g c _ =
    let none = c.in-Clean.ensures.clean refl in
    (nil_from_length c.push_chain.new.self.chain (sym c.len.ensures.len ∙ c.if-len-eq0.true), subst (WasFull 0) (sym none.0) none.2)

pub returns-then-len-eq0-clause-later : goal.returns-then-len-eq0-clause-later
returns-then-len-eq0-clause-later g c =
    let old = c.args.committer.now in
    let mid = c.loop-chain.committer in
    let new = c.commit_one.new.self in
    told_trans old.regions old.device mid.regions mid.device new.regions new.device c.loop-chain.invariant.later c.commit_one.ensures.later

pub returns-then-len-eq0-clause-same : goal.returns-then-len-eq0-clause-same
returns-then-len-eq0-clause-same g c =
    let was = c.loop-chain.invariant in
    (c.commit_one.ensures.same ∙ was.regions, c.push_chain.ensures.handed.held ∙ was.held, c.push_chain.ensures.same ∙ was.popped)

pub returns-in-WriteFault-clause-done : goal.returns-in-WriteFault-clause-done
returns-in-WriteFault-clause-done g c is = absurd (true≢false is)

pub returns-in-WriteFault-clause-later : goal.returns-in-WriteFault-clause-later
returns-in-WriteFault-clause-later g c =
    let old = c.args.committer.now in
    let mid = c.loop-chain.committer in
    let new = c.commit_one.new.self in
    told_trans old.regions old.device mid.regions mid.device new.regions new.device c.loop-chain.invariant.later c.commit_one.ensures.later

pub returns-in-WriteFault-clause-same : goal.returns-in-WriteFault-clause-same
returns-in-WriteFault-clause-same g c =
    let was = c.loop-chain.invariant in
    (c.commit_one.ensures.same ∙ was.regions, c.push_chain.ensures.handed.held ∙ was.held, c.push_chain.ensures.same ∙ was.popped)
