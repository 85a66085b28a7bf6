use Rattle.std.proofs.Common.{◌<◌, ◌^◌, subst}
use Rattle.region_model.specs.Journal.{IsJournal}
use Rattle.region_model.specs.Lines.{edits_in}
use Rattle.region_state.specs.States.{State, write_point}
use Rattle.region_state.proofs.state.RegionState.journal.Goals as goal

pub returns-clause-journal : goal.returns-clause-journal
returns-clause-journal c = subst (λ (s : State). IsJournal s.region s.base (edits_in s.region s.lines)) c.self.view_is c.self.invariant.journal

pub returns-clause-limit : goal.returns-clause-limit
returns-clause-limit c = subst (λ (s : State). write_point s < 2 ^ 48) c.self.view_is c.self.invariant.limit
