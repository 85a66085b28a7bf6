-- What stands after a link of a chain.
use Rattle.std.specs.Prelude.{List, [], ◌∷◌, Option, Some, None}
use Rattle.std.specs.Global.{Box}
use Rattle.log_trucks.specs.Held.{Held, Haul, held_of}

abbrev pub linked : Option (Box Haul) → List Held
linked None = []
linked (Some t) = held_of t.value ∷ t.value.behind
