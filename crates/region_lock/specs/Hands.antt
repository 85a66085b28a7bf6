-- What stays of a hand.
use Rattle.std.specs.Prelude.{◌≡◌}
use Rattle.hand_register.specs.Views.{HandView}

-- the hand keeps its number, and its desk
abbrev pub SameHand : {X : Type 0} → HandView X → HandView X → Type 0
SameHand old new = (new.number ≡ old.number) × (new.desk ≡ old.desk)
