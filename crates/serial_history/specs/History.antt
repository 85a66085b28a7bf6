-- Lawful replies as a history of one thread. A get is a scan.
use Rattle.std.specs.Prelude.{◌≡◌, ◌≢◌, ℕ, ◌<◌, List, [], AllPairs, Contains, Option, Some, None}
use Rattle.region_model.specs.Journal.{Base, Edit, IsJournal}
use Rattle.region_model.specs.Calls.{Answer, PutOk, PutMemory, PutFault, Scanned, Reply}
use Rattle.region_model.specs.Lawful.{IsOn, IsLawful, place_of, number_of}
use Rattle.region_model.specs.OneThread.{Run}

-- ---- whose replies are in it

-- where an answer stands among the edits: the sequence id that a put drew, or the point that a scan read at
abbrev pub position_of : Answer → Option ℕ
position_of (PutOk n) = Some n
position_of (PutMemory n) = n
position_of (PutFault n) = n
position_of (Scanned p cells) = Some p
position_of _ = None

-- a put on the region that drew a sequence id, as far as its answer tells it, or a scan of it that was answered with cells
pub record HasPosition (r : ℕ) (reply : Reply) : Type 0 where
  pub on : IsOn r reply.call
  pub position : ℕ
  pub is : position_of reply.answer ≡ Some position

-- ---- in which order, of an earlier and a later reply of it

-- they answer two calls
abbrev pub AreTwoCalls : Reply → Reply → Type 0
AreTwoCalls a b = a.handler ≡ b.handler → a.number ≢ b.number

-- of one handler, and each a put that went well or a scan: it made the calls in this order
abbrev pub ArePlaced : Reply → Reply → Type 0
ArePlaced a b = a.handler ≡ b.handler → (p q : ℕ) → place_of a.answer ≡ Some p → place_of b.answer ≡ Some q → a.number < b.number

-- of one handler, and each a put that drew a sequence id, whatever it was answered: it made the calls in this order
abbrev pub AreNumbered : Reply → Reply → Type 0
AreNumbered a b = a.handler ≡ b.handler → (m n : ℕ) → number_of a.answer ≡ Some m → number_of b.answer ≡ Some n → a.number < b.number

-- ---- the law

-- One thread could have had this history: its calls are those of all handlers, put into one order.
pub record IsHistory (r : ℕ) (base : Base) (edits : List Edit) (replies history : List Reply) : Type 0 where
  -- Made one after the other from the base on, these calls are answered so and leave these edits: each put adds the next edit, and
  -- each scan sees all done edits before it.
  pub runs : Run r base [] history edits
  -- it has the replies with a position and no others, and no call twice
  pub from : (reply : Reply) → Contains history reply → Contains replies reply × HasPosition r reply
  pub whole : (reply : Reply) → Contains replies reply → HasPosition r reply → Contains history reply
  pub once : AllPairs AreTwoCalls history
  -- Each handler's calls stand in the order in which it made them. A put that answered a fault, or that memory had run out, has its
  -- order among the handler's puts, and none among its scans.
  pub in_order : AllPairs ArePlaced history
  pub puts_in_order : AllPairs AreNumbered history

-- Replies that are lawful for a region's journal are a history of one thread. That each edit is completed need not be asked: each is
-- a put's that was answered.
abbrev pub LawfulRepliesAreOfOneThread : Type 0
LawfulRepliesAreOfOneThread = (r : ℕ) (base : Base) (edits : List Edit) (replies : List Reply) → IsJournal r base edits → IsLawful r base edits replies
    → (history : List Reply) × IsHistory r base edits replies history
