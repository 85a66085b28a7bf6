-- A region all of whose lines are completed, in its history and shown.
use Rattle.std.specs.Prelude.{◌≡◌, ◌+◌, List, [], ◌∷◌, ◌++◌, length}
use Rattle.region_model.specs.Journal.{Base}
use Rattle.region_model.specs.Lines.{Line}
use Rattle.region_state.specs.Calls.{AreBelow}
use Rattle.region_state.specs.States.{State}
use Rattle.region_versions.specs.Histories.{Beginning}

pub record IsAllShown (named : Base) (state : State) (history seen : Beginning) : Type 0 where
  pub base : state.base ≡ named
  pub lines : state.lines ≡ history.lines
  pub shown : seen ≡ history
  pub calls : AreBelow (length state.lines + 1) state.lines

-- one line more
abbrev pub IsOneMore : List Line → List Line → Type 0
IsOneMore old new = (x : Line) × (new ≡ old ++ x ∷ [])
