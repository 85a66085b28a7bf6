use Rattle.std.proofs.Common.{sym, ◌∙◌, subst}
use Rattle.load_command.specs.Statuses.{IsDecided}
use Rattle.load_command.proofs.Running.{decided_end, fault_decided}
use Rattle.load_command.proofs.command.decided_status.Goals as goal

pub returns-in-Ok-clause-range : goal.returns-in-Ok-clause-range
returns-in-Ok-clause-range c = subst IsDecided (sym c.decide.ensures) (decided_end c.args.broken c.args.spent c.as_slice.result.now)

pub returns-in-Ok-clause-cause : goal.returns-in-Ok-clause-cause
returns-in-Ok-clause-cause c is = fault_decided c.args.broken c.args.spent c.as_slice.result.now (sym c.decide.ensures ∙ is)
