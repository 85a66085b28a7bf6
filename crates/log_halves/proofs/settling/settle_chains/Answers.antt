use Rattle.log_halves.proofs.settling.settle_chains.Goals as goal

pub returns-then-is_done-clause-later : goal.returns-then-is_done-clause-later
returns-then-is_done-clause-later g c = c.loop-turn.invariant.later
