use Rattle.log_trucks.specs.Unflushed.{is_unflushed}
use Rattle.log_trucks.proofs.Walked.{Walked}
use Rattle.log_trucks.proofs.chain.any_left.Given as goal

-- none of so many cells is unflushed, and the others stand in the rest
abbrev pub invariant-loop : goal.invariant-loop
invariant-loop l = Walked (is_unflushed l.accounting l.region l.number) l.form l.bytes l.count l.rest l.counter
