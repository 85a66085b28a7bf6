-- What contracts see of a desk and of a hand.
use Rattle.std.specs.Prelude.{ℕ, List}
use Rattle.atomic_table.specs.Seated.{TableId}
use Rattle.hand_register.specs.declared.known.Record.{Record}

-- which table it is, and its records: one for each hand, in the order of the hands' numbers
pub record DeskView (X : Type 0) : Type 0 where
  pub id : TableId
  pub records : List (Record X)

-- its number, from 1 on, its desk's table, and its record
pub record HandView (X : Type 0) : Type 0 where
  pub number : ℕ
  pub desk : TableId
  pub «record» : Record X
