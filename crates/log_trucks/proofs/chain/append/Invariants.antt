use Rattle.std.proofs.Common.{◌≡◌, ◌++◌}
use Rattle.std.specs.Prelude.{filter, ◌&&◌}
use Rattle.cell_model.specs.Merge.{at_number}
use Rattle.seq_accounting.specs.Accounts.{is_for}
use Rattle.log_trucks.specs.Unflushed.{is_unflushed}
use Rattle.log_trucks.proofs.chain.append.Given as goal

abbrev pub invariant-loop-cell : goal.invariant-loop-cell
invariant-loop-cell l = l.all ≡ l.initial.all ++ at_number l.number (filter (λ c. is_for l.family c.family && is_unflushed l.accounting l.region l.number c) l.yielded)
