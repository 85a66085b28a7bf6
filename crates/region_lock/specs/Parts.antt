-- What lies under a region's lock.
use Rattle.std.specs.Prelude.{◌≡◌, ℕ, ◌+◌, ◌<◌, ◌≤◌, ◌==◌, if◌then◌else◌, List, [], ◌∷◌, ◌++◌, length, map, Option, Some, None, slice_get, Contains, refl}
use Rattle.std.specs.Coded.{Coded, code_by, coded×, coded_ℕ, coded_option}
use Rattle.atomic_table.specs.Seated.{TableId}
use Rattle.hand_register.specs.declared.known.Record.{Record}
use Rattle.append_ring.specs.declared.pass.RingKey.{RingKey}
use Rattle.append_ring.specs.Parts.{last_pushed}
use Rattle.log_model.specs.Entry.{Entry}
use Rattle.region_model.specs.Journal.{Base, Caller, Outcome, Pending}
use Rattle.region_model.specs.Lines.{Line, edit_in, last_in, handled_lines}
use Rattle.region_state.specs.States.{State, coded_state}
use Rattle.log_service.specs.log_halves.declared.item.Item.{Item}
use Rattle.log_service.specs.Items.{number_of}
use Rattle.log_service.specs.Closed.{HasPushedEntries}

-- a region's state, and the caller of the flush that is under way
pub record Part : Type 0 where
  pub state : State
  pub mark : Option Caller

abbrev pub coded_caller : Coded Caller
coded_caller = code_by (ℕ × ℕ) (coded× coded_ℕ coded_ℕ) (λ c. (c.handler, c.call)) (λ p. record { handler = p.0; call = p.1 }) (λ _. refl)

abbrev pub coded_part : Coded Part
coded_part =
    code_by (State × Option Caller) (coded× coded_state (coded_option coded_caller)) (λ p. (p.state, p.mark)) (λ p. record { state = p.0; mark = p.1 }) (λ _. refl)

-- the part with these lines in its journal, and with room for so many edits more
abbrev pub with_lines : Part → List Line → ℕ → Part
with_lines p xs room = record p { state = record p.state { lines = xs; room = room } }

-- the entries of a region's lines
abbrev pub entries_in : ℕ → List Line → List Entry
entries_in r xs = map (λ x. (edit_in r x).entry) xs

-- the record of each hand has its handler's lines; hands are numbered from 1
abbrev pub AreOwn : List (Record Line) → List Line → Type 0
AreOwn records xs = (k : ℕ) (r : Record Line) → slice_get records k ≡ Some r → r.list ≡ handled_lines (k + 1) xs

-- each line is of one of n handlers
abbrev pub AreOwned : ℕ → List Line → Type 0
AreOwned n [] = Unit {0}
AreOwned n (x ∷ xs) = ((1 ≤ x.caller.handler) × (x.caller.handler ≤ n)) × AreOwned n xs

-- each number that a hand was told as spent is at most the last one
abbrev pub AreTold : List (Record ℕ) → ℕ → Type 0
AreTold records last = (k : ℕ) (r : Record ℕ) (n : ℕ) → slice_get records k ≡ Some r → Contains r.list n → n ≤ last

-- the mark of a handler's record, where this flush is under way
abbrev pub mark_of : Option Caller → ℕ → ℕ
mark_of None h = 0
mark_of (Some c) h = if c.handler == h then c.call else 0

-- the mark names a handler exactly where its record is marked
abbrev pub AreMarked : List (Record Line) → Option Caller → Type 0
AreMarked records mark = (k : ℕ) (r : Record Line) → slice_get records k ≡ Some r → r.mark ≡ mark_of mark (k + 1)

-- the ties of a region: what was pushed are the journal's entries, and what the hands have are their handlers' lines
pub record IsPart (flushes : List Caller) (r : ℕ) (base : Base) (xs : List Line) (mark : Option Caller)
    (ours : List (Record Line)) (theirs : List (Record ℕ)) (pass : RingKey Item) : Type 0 where
  pub pushed : HasPushedEntries pass (entries_in r xs)
  pub drawn : last_pushed number_of pass ≡ last_in base xs
  pub own : AreOwn ours xs
  pub owners : AreOwned (length ours) xs
  pub told : AreTold theirs (last_in base xs)
  pub marks : AreMarked ours mark
  pub listed : (c : Caller) → mark ≡ Some c → (1 ≤ c.call) × Contains flushes c

-- whose they are
pub record IsNamed (desks spents : ℕ → TableId) (ring_id : TableId) (bases : ℕ → Base) (handlers : ℕ) (r : ℕ) (base : Base)
    (count : ℕ) (of_desk of_spent of_ring : TableId) (of_region : ℕ) : Type 0 where
  pub desk : of_desk ≡ desks r
  pub spent : of_spent ≡ spents r
  pub ring : of_ring ≡ ring_id
  pub region : of_region ≡ r
  pub known : base ≡ bases r
  pub hands : count ≡ handlers

-- each of these calls is below this one
abbrev pub AreCalledBelow : ℕ → List Line → Type 0
AreCalledBelow call xs = (x : Line) → Contains xs x → x.caller.call < call

-- each of these is numbered below n
abbrev pub AreBelow : ℕ → List Line → Type 0
AreBelow n xs = (x : Line) → Contains xs x → x.number < n

-- the last of these is pending, with this number
pub record EndsPending (xs : List Line) (n : ℕ) : Type 0 where
  pub front : List Line
  pub last : Line
  pub is : xs ≡ front ++ last ∷ []
  pub number : last.number ≡ n
  pub outcome : last.outcome ≡ Pending

-- ys is xs with this outcome of the last one
pub record WasEnded (o : Outcome) (xs ys : List Line) : Type 0 where
  pub front : List Line
  pub last : Line
  pub before : xs ≡ front ++ last ∷ []
  pub after : ys ≡ front ++ (record last { outcome = o }) ∷ []
