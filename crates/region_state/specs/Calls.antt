-- Calls of the lines of a journal, for the tests.
use Rattle.std.specs.Prelude.{ℕ, ◌<◌, List, [], ◌∷◌}
use Rattle.region_model.specs.Lines.{Line}

-- each line is of a call below this one
abbrev pub AreBelow : ℕ → List Line → Type 0
AreBelow call [] = Unit {0}
AreBelow call (x ∷ xs) = (x.caller.call < call) × AreBelow call xs
