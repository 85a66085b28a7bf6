-- A store's logs and a peer that follows them, from one call to the next.
use Rattle.std.specs.Prelude.{◌≡◌, List, [], ◌∷◌, ◌++◌}
use Rattle.log_model.specs.Files.{Files}
use Rattle.chronicle_model.specs.Chronicle.{Placed, Position, IsChronicle}
use Rattle.chronicle_model.specs.Growth.{Prolongs, IsGoingOn}
use Rattle.chronicle_model.specs.Shipping.{Shipping, HasShipped}
use Rattle.ship_queue.specs.Messages.{Message, shipped_in}
use Rattle.ship_queue.specs.Shipping.{IsShipStep, recorded_or}

-- a store's files as they read, the chronicle of their logs, and what the peer was told so far
pub record Moment : Type 0 where
  pub files : Files
  pub chronicle : List Placed
  pub is : IsChronicle files chronicle
  pub messages : List Message

-- The call between two moments was one of these, where the peer has recorded nothing but this position to begin with:
-- * a call of the store's device that didn't break it: its clauses `chronicle` and `goes_on` say this of the files;
-- * `ship_all`, with a tail at the recorded position: its clauses `looks`, and `reached` or `reached_so_far`, say this.
pub data Call (first : Position) (old new : Moment) : Type 0 where
  OfDevice : Prolongs old.files new.files → IsGoingOn new.files → new.messages ≡ old.messages → Call first old new
  OfShipping : new.files ≡ old.files → IsShipStep old.files old.chronicle (recorded_or first old.messages) old.messages new.messages → Call first old new

-- calls from a moment on, one after the other, with the moments after them
abbrev pub Calls : Position → Moment → List Moment → Type 0
Calls first m [] = Unit {0}
Calls first m (n ∷ ns) = Call first m n × Calls first n ns

abbrev pub last_of : Moment → List Moment → Moment
last_of m [] = m
last_of m (n ∷ ns) = last_of n ns

-- The peer was told nothing when the calls began, and the highest log had no end.
pub record HaveBeenMade (first : Position) (start : Moment) (later : List Moment) : Type 0 where
  pub goes_on : IsGoingOn start.files
  pub untold : start.messages ≡ []
  pub calls : Calls first start later

-- the chronicle, what the peer was shipped of it, and the position that it has recorded
abbrev pub shipping_at : Position → Moment → Shipping
shipping_at first m = record { chronicle = m.chronicle; shipped = shipped_in m.messages; recorded = recorded_or first m.messages }

-- ---- a peer among these calls

-- After these calls a store's files are these, and the peer tells what it was told; its recorded position is this one.
pub record IsAt {P : Type 0} (has : P → List Message → Type 0) (first : Position) (start : Moment) (later : List Moment) (files : Files) (peer : P) (at : Position) : Type 0 where
  pub made : HaveBeenMade first start later
  pub disk : (last_of start later).files ≡ files
  pub told : has peer (last_of start later).messages
  pub recorded : recorded_or first (last_of start later).messages ≡ at

-- After more calls the files are these and the peer was told these messages: what it was shipped, with repeats taken out,
-- begins what stands after the first position.
pub record HasFollowed (first : Position) (start : Moment) (later : List Moment) (files : Files) (messages : List Message) : Type 0 where
  pub more : List Moment
  pub now : Moment
  pub made : HaveBeenMade first start (later ++ (more ++ now ∷ []))
  pub disk : now.files ≡ files
  pub told : now.messages ≡ messages
  pub shipped : HasShipped first (shipping_at first now)

-- ---- law

-- Over any list of a device's calls and calls that ship, each from the recorded position on, what was shipped, with repeats
-- taken out, begins what stands after the first position, and reaches the recorded one.
abbrev pub ShippedBeginsTheChronicle : Type 0
ShippedBeginsTheChronicle =
    (first : Position) (start : Moment) (later : List Moment) → HaveBeenMade first start later → HasShipped first (shipping_at first (last_of start later))
