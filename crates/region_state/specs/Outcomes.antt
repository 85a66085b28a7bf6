-- What the outcomes of the code are.
use Rattle.region_model.specs.Journal.{Outcome, Pending, Done, Failed}
use Rattle.region_state.specs.declared.line.LineOutcome.{LineOutcome}
use Rattle.region_state.specs.declared.line.LineOutcome.TheVariants as line
use Rattle.region_state.specs.declared.line.Ended.{Ended}
use Rattle.region_state.specs.declared.line.Ended.TheVariants as end

abbrev pub outcome_of : LineOutcome → Outcome
outcome_of line.Pending = Pending
outcome_of line.Done = Done
outcome_of line.Failed = Failed

abbrev pub outcome_at_end : Ended → Outcome
outcome_at_end end.Done = Done
outcome_at_end end.Failed = Failed
