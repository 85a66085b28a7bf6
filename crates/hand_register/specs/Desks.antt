-- What a clause reads of a desk and of its hands.
use Rattle.std.specs.Prelude.{◌≡◌, ℕ, ◌+◌, ◌-◌, List, [], ◌∷◌, ◌++◌, length, replicate, slice_get, slice_set, Option}
use Rattle.atomic_table.specs.Seated.{TableId}
use Rattle.hand_register.specs.declared.known.Record.{Record}
use Rattle.hand_register.specs.declared.desk.DeskParts.{DeskParts}
use Rattle.hand_register.specs.Rule.{empty, but_last}
use Rattle.hand_register.specs.Views.{DeskView, HandView}

module _ {X : Type 0} where
  -- the record of the hand with this number; numbers begin at 1
  abbrev pub record_at : List (Record X) → ℕ → Option (Record X)
  record_at records number = slice_get records (number - 1)

  -- that record replaced
  abbrev pub with_record : List (Record X) → ℕ → Record X → List (Record X)
  with_record records number r = slice_set records (number - 1) r

  -- the hand is of this desk
  abbrev pub OfDesk : DeskView X → HandView X → Type 0
  OfDesk desk hand = hand.desk ≡ desk.id

  -- the hand keeps its number, and both stay of one desk
  abbrev pub IsSameHand : DeskView X → HandView X → DeskView X → HandView X → Type 0
  IsSameHand desk hand desk' hand' = (hand'.number ≡ hand.number) × (hand'.desk ≡ hand.desk) × (desk'.id ≡ desk.id)

  abbrev pub with_value : Record X → X → Record X
  with_value r x = record { list = r.list ++ x ∷ []; mark = r.mark }

  abbrev pub with_last : Record X → X → Record X
  with_last r x = record { list = but_last r.list ++ x ∷ []; mark = r.mark }

  abbrev pub with_mark : Record X → ℕ → Record X
  with_mark r mark = record { list = r.list; mark = mark }

  -- new hands of one desk, numbered from n on
  abbrev pub AreFresh : TableId → ℕ → List (HandView X) → Type 0
  AreFresh id n [] = Unit {0}
  AreFresh id n (hand ∷ hands) = (hand.number ≡ n) × (hand.record ≡ empty) × (hand.desk ≡ id) × AreFresh id (n + 1) hands

  -- a desk with n empty records, and its n hands, 1 and up
  pub record AreParts (parts : DeskParts X) (n : ℕ) : Type 0 where
    pub empty : parts.desk.records ≡ replicate n empty
    pub count : length parts.hands ≡ n
    pub fresh : AreFresh parts.desk.id 1 parts.hands
