-- Facts that have one proof at most.
use Rattle.std.specs.Prelude.{ℕ, ◌+◌, List, [], ◌∷◌}
use Rattle.std.specs.Coded.{×_prop, Unit-prop, le_prop, Coded-set, coded_ℕ}
use mathlib.Core.Logic.{∥∥₁_prop}
use Rattle.log_trucks.specs.Held.{Held}
use Rattle.log_halves.specs.Trucks.{AreSpelled, FollowOn, onward}

pub spelled_prop : (ts : List Held) → IsProp (AreSpelled ts)
spelled_prop [] = Unit-prop
spelled_prop (t ∷ ts) = ×_prop ∥∥₁_prop (spelled_prop ts)

pub follow_prop : (n : ℕ) (last : ℕ → ℕ) (ts : List Held) → IsProp (FollowOn n last ts)
follow_prop n last [] = Unit-prop
follow_prop n last (t ∷ ts) = ×_prop (×_prop (×_prop le_prop le_prop) (Coded-set coded_ℕ t.number (last t.region + 1))) (follow_prop n (onward last t) ts)
