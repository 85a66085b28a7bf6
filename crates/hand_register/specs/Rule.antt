-- The rule of a desk's table, and what each step tells.
use Rattle.std.specs.Prelude.{◌≡◌, ℕ, List, [], ◌∷◌, ◌++◌, length, slice_get, slice_set, Some, Bool, true, false, ◌-◌, take}
use mathlib.Core.Option.{Option as Maybe, none, some}
use lib.ListN.{get_elem?}
use Rattle.atomic_table.specs.Table.{State, Me, Step}
use Rattle.hand_register.specs.declared.known.Known.{Known}
use Rattle.hand_register.specs.declared.known.Record.{Record}

module _ {X : Type 0} where
  abbrev pub empty : Record X
  empty = record { list = []; mark = 0 }

  abbrev pub nobody : Known X
  nobody = record { role = 0; place = 0; mine = empty; inside = false; all = []; outs = [] }

  abbrev pub hand_of : ℕ → Record X → Known X
  hand_of n r = record { role = 2; place = n; mine = r; inside = false; all = []; outs = [] }

  -- a desk with no hand in a call
  abbrev pub desk_of : List (Record X) → List Bool → Known X
  desk_of all outs = record { role = 1; place = 0; mine = empty; inside = false; all = all; outs = outs }

  -- a desk with the hand n in a call, which came with the record r
  abbrev pub busy : ℕ → Record X → List (Record X) → List Bool → Known X
  busy n r all outs = record { role = 1; place = n; mine = r; inside = true; all = all; outs = outs }

  abbrev pub opening_desk : Known X
  opening_desk = desk_of [] []

  abbrev pub with_one_more : Known X → Known X
  with_one_more v = desk_of (v.all ++ empty ∷ []) (v.outs ++ true ∷ [])

  abbrev pub newest : Known X → Known X
  newest v = hand_of (length v.all) empty

  abbrev pub received : Known X → Known X → Known X
  received v w = busy w.place w.mine v.all (slice_set v.outs w.place false)

  abbrev pub sent : Known X → Known X
  sent v = desk_of v.all (slice_set v.outs v.place true)

  abbrev pub handed_back : Known X → Known X
  handed_back v = hand_of v.place v.mine

  -- what the rule says of one seat
  abbrev pub Fits : ℕ → (ℕ → ℕ) → List (Record X) → List Bool → ℕ → Known X → Type 0
  Fits desk owner all outs j v =
      (v.role ≡ 1 → (j ≡ desk) × (v.all ≡ all) × (v.outs ≡ outs) × (v.inside ≡ true → (get_elem? outs v.place ≡ some false) × (get_elem? all v.place ≡ some v.mine)))
      × (v.role ≡ 2 → (j ≡ owner v.place) × (get_elem? outs v.place ≡ some true) × (get_elem? all v.place ≡ some v.mine))

  -- one desk, one seat at most for each hand's number, none while it is in a call, and the seat's record is the desk's of that number
  pub record Kept (s : State X (Known X)) : Type 0 where
    pub desk : ℕ
    pub owner : ℕ → ℕ
    pub all : List (Record X)
    pub outs : List Bool
    pub even : length all ≡ length outs
    pub each : (j : ℕ) (v : Known X) → get_elem? s.views j ≡ some v → Fits desk owner all outs j v

  -- the desk's record of the hand in a call is that with which it came
  abbrev pub Met : Step X → Me X (Known X) → ℕ → Me X (Known X) → Type 0
  Met st m n m' = (m' ≡ m) × (slice_get m.0.all m.0.place ≡ Some m.0.mine)

  abbrev pub changed : Known X → Record X → Known X
  changed v r = busy v.place r (slice_set v.all v.place r) v.outs

  abbrev pub said_or : Maybe X → List X → List X
  said_or (some x) xs = xs ++ x ∷ []
  said_or none xs = xs

  abbrev pub but_last : List X → List X
  but_last xs = take (length xs - 1) xs

  abbrev pub Added : Step X → Me X (Known X) → ℕ → Me X (Known X) → Type 0
  Added st m n m' = (m' ≡ (changed m.0 (record { list = said_or st.said m.0.mine.list; mark = m.0.mine.mark }), m.1)) × (slice_get m.0.all m.0.place ≡ Some m.0.mine)

  abbrev pub Amended : Step X → Me X (Known X) → ℕ → Me X (Known X) → Type 0
  Amended st m n m' = (m' ≡ (changed m.0 (record { list = said_or st.said (but_last m.0.mine.list); mark = m.0.mine.mark }), m.1)) × (slice_get m.0.all m.0.place ≡ Some m.0.mine)

  abbrev pub Marked : Step X → Me X (Known X) → ℕ → Me X (Known X) → Type 0
  Marked st m n m' = (m' ≡ (changed m.0 (record { list = m.0.mine.list; mark = st.first }), m.1)) × (slice_get m.0.all m.0.place ≡ Some m.0.mine)

  abbrev pub view_in : List (Known X) → Known X
  view_in [] = nobody
  view_in (v ∷ _) = v
