-- What contracts see of a seat, of the seats that are not handed out, and of a berth.
use Rattle.std.specs.Prelude.{◌≡◌, ℕ, ◌+◌, ◌<◌, ◌≤◌, Bool, true, false, List, [], ◌∷◌}
use Rattle.atomic_table.specs.Seated.{TableId}
use Rattle.log_berth.specs.declared.known.Known.{Known}
use Rattle.log_berth.specs.Words.{known, nobody, idle, NoMore, Same, Informs}

-- of which berth a seat is, and what it knows
pub record Standing : Type 0 where
  pub berth : TableId
  pub knows : Known

abbrev pub first_of : List Known → Known
first_of [] = nobody
first_of (v ∷ vs) = v

-- which berth it is, and how many regions and seats it has
pub record BerthId : Type 0 where
  pub id : TableId
  pub regions : ℕ
  pub seats : ℕ

-- the table of a berth of so many regions and seats: a word for each region and two more, one slot, and room for the regions' words at its close
pub record IsBerth (table : TableId) (key_regions key_seats regions seats : ℕ) (room : List ℕ) (capacity : ℕ) : Type 0 where
  pub words : table.words ≡ regions + 2
  pub slots : table.slots ≡ 1
  pub key : ◌≡◌ {A = ℕ × ℕ} (key_regions, key_seats) (regions, seats)
  pub none_yet : room ≡ []
  pub room_there : regions ≤ capacity
  pub some_seat : 0 < seats

-- seats that are not handed out, and how many there is room for
pub record Bundle : Type 0 where
  pub seats : List Standing
  pub room : ℕ

-- a seat that has seen these numbers and made no step
abbrev pub fresh : TableId → List ℕ → Standing
fresh id numbers = record { berth = id; knows = known 1 false numbers false [] idle }

-- each seat is of this berth and has not the turn
abbrev pub AreBack : TableId → List Standing → Type 0
AreBack id [] = Unit {0}
AreBack id (s ∷ ss) = ((s.berth ≡ id) × (s.knows.turn ≡ false)) × AreBack id ss

-- what the seat had seen is not above these numbers, and where it had seen the fault they are those that it saw last
pub record Saw (seat : Standing) (numbers : List ℕ) (broken : Bool) : Type 0 where
  pub seen : NoMore seat.knows.seen numbers
  pub fault : seat.knows.broken ≡ true → (broken ≡ true) × Same seat.knows.last numbers

abbrev pub AllSaw : List Standing → List ℕ → Bool → Type 0
AllSaw [] numbers broken = Unit {0}
AllSaw (s ∷ ss) numbers broken = Saw s numbers broken × AllSaw ss numbers broken

-- who knows this knows at least what each seat does
abbrev pub InformAll : List Standing → Known → Type 0
InformAll [] v = Unit {0}
InformAll (s ∷ ss) v = Informs s.knows v × InformAll ss v
