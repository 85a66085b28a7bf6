-- What each call does to what its pass knows, by its answer.
use Rattle.std.specs.Prelude.{◌≡◌, ◌≢◌, ℕ, ◌-◌, ◌^◌, ◌<◌, ◌≤◌, Bool, true, IsTrue, List, [], ◌∷◌, ◌++◌, Contains, Option, Some, None}
use Rattle.cell_model.specs.Batch.{Batch}
use Rattle.cell_model.specs.Cell.{Cell}
use Rattle.region_model.specs.Journal.{Edit, Outcome, Done, Caller, last_of, visible}
use Rattle.region_model.specs.Calls.{Call, Put, Scan, Flush, Roll, Answer, PutOk, PutFault, PutSpent, Scanned, FlushOk, FlushNothing, FlushBusy, FlushFault, RollOk, RollNothing, RollFault, Reply, View, viewed, is_put, is_scan, is_flush, is_roll}
use Rattle.region_model.specs.Lawful.{number_of, outcome_of, flushed_of, IsPutFault}
use Rattle.server_model.specs.Pass.{Known, Pass, Naming, IsLater, IsQuiet}

-- the edit of a put that drew this number
abbrev pub edit_of : (r n time : ℕ) → Batch → Caller → Outcome → Edit
edit_of r n time batch caller outcome = record { entry = record { region = r; number = n; time = time; batch = batch }; caller = caller; outcome = outcome }

abbrev pub drawn : (r time : ℕ) → Batch → Caller → Answer → Option ℕ → List Edit
drawn r time batch caller answer None = []
drawn r time batch caller answer (Some n) = edit_of r n time batch caller (outcome_of answer) ∷ []

abbrev pub told_last : Answer → List ℕ
told_last (PutSpent last) = last ∷ []
told_last _ = []

abbrev pub IsPutAnswer : Answer → Type 0
IsPutAnswer answer = IsTrue (is_put answer)

abbrev pub IsScanAnswer : Answer → Type 0
IsScanAnswer answer = IsTrue (is_scan answer)

abbrev pub IsFlushAnswer : Answer → Type 0
IsFlushAnswer answer = IsTrue (is_flush answer)

abbrev pub IsRollAnswer : Answer → Type 0
IsRollAnswer answer = IsTrue (is_roll answer)

abbrev pub IsRolled : Answer → Type 0
IsRolled (RollOk f n) = Unit {0}
IsRolled (RollNothing f) = Unit {0}
IsRolled _ = ⊥

abbrev pub IsFault : Answer → Type 0
IsFault (PutFault n) = Unit {0}
IsFault FlushFault = Unit {0}
IsFault RollFault = Unit {0}
IsFault _ = ⊥

-- nothing of the handler's own changed, in any region
abbrev pub IsQuietPass : Pass → Pass → Type 0
IsQuietPass old new = (r : ℕ) → IsQuiet (old.known r) (new.known r)

-- A put of this batch into r. Its own list grows by one edit exactly where a number was drawn.
pub record Puts (name : Naming) (time r : ℕ) (sync : Bool) (batch : Batch) (caller : Caller) (answer : Answer) (old new : Pass) : Type 0 where
  pub answered : IsPutAnswer answer
  pub later : IsLater old new
  pub own : (new.known r).own ≡ (old.known r).own ++ drawn r time batch caller answer (number_of answer)
  pub spent : (new.known r).spent ≡ (old.known r).spent ++ told_last answer
  pub elsewhere : (s : ℕ) → s ≢ r → IsQuiet (old.known s) (new.known s)
  -- the number is above all that the pass had seen, shown or its own
  pub above : (n : ℕ) → number_of answer ≡ Some n → last_of (name.bases r).last (old.known r).shown < n
  pub above_own : (n : ℕ) (e : Edit) → number_of answer ≡ Some n → Contains (old.known r).own e → e.entry.number < n
  -- a put that answered ok is shown: the shown list has its own edit; and it is durable where that was asked for
  pub seen : (n : ℕ) → answer ≡ PutOk n → n ≤ last_of (name.bases r).last (new.known r).shown
  pub place : (n : ℕ) → answer ≡ PutOk n → Contains (new.known r).shown (edit_of r n time batch caller Done)
  pub synced : (n : ℕ) → sync ≡ true → number_of answer ≡ Some n → outcome_of answer ≡ outcome_of (PutOk n) → n ≤ (new.known r).synced
  -- a fault was seen before it is told, and no number is drawn once it was seen
  pub fault : IsPutFault answer → new.broken ≡ true
  pub stops : old.broken ≡ true → number_of answer ≡ None
  pub fault_sync : (n : ℕ) → answer ≡ PutFault (Some n) → sync ≡ true
  pub limit : (n : ℕ) → answer ≡ PutSpent n → n ≡ 2 ^ 48 - 1
  pub used : new.calls ≡ caller.call

-- A scan or a get has what it asks to see of a shown list that the former one begins.
pub record Scans (name : Naming) (view : View) (r : ℕ) (from to : List ℕ) (answer : Answer) (old new : Pass) : Type 0 where
  pub answered : IsScanAnswer answer
  pub later : IsLater old new
  pub own : IsQuietPass old new
  pub cells : (p : ℕ) (cells : List (ℕ × Cell)) → answer ≡ Scanned p cells
      → (p ≡ last_of (name.bases r).last (new.known r).shown) × (cells ≡ viewed view (visible (name.bases r).content (new.known r).shown p from to))
  pub used : new.calls ≡ old.calls

-- A flush that answered its number: it is the last that is durable. Where all families were flushed it is what is stored now, and above all
-- that the pass had seen stored.
pub record IsFlushedTo (family : Option (List ℕ)) (n : ℕ) (old new : Known) : Type 0 where
  pub synced : n ≡ new.synced
  pub stored : family ≡ None → n ≡ new.stored
  pub more : family ≡ None → old.stored < n

-- A flush that found nothing to flush: its number is the last that is durable. Where all families were asked for it is what is stored.
pub record IsNothingAbove (family : Option (List ℕ)) (n : ℕ) (new : Known) : Type 0 where
  pub synced : n ≡ new.synced
  pub stored : family ≡ None → n ≡ new.stored

-- a flush of region r, of one family or of all
pub record Flushes (name : Naming) (r : ℕ) (family : Option (List ℕ)) (caller : Caller) (answer : Answer) (old new : Pass) : Type 0 where
  pub answered : IsFlushAnswer answer
  pub later : IsLater old new
  pub own : IsQuietPass old new
  -- the number is at or above all that the pass had seen, shown or its own; where all families were flushed the seat has seen it stored
  pub above : (n : ℕ) → flushed_of answer ≡ Some n → last_of (name.bases r).last (old.known r).shown ≤ n
  pub above_own : (n : ℕ) (e : Edit) → flushed_of answer ≡ Some n → Contains (old.known r).own e → e.entry.number ≤ n
  pub stored : (n : ℕ) → family ≡ None → flushed_of answer ≡ Some n → n ≤ (new.known r).stored
  pub busy : (h c : ℕ) → answer ≡ FlushBusy h c → (h ≢ caller.handler) × Contains (name.flushes r) (record { handler = h; call = c })
  pub fault : answer ≡ FlushFault → new.broken ≡ true
  pub used : new.calls ≡ caller.call
  pub flushed : (n : ℕ) → answer ≡ FlushOk n → IsFlushedTo family n (old.known r) (new.known r)
  pub nothing : (n : ℕ) → answer ≡ FlushNothing n → IsNothingAbove family n (new.known r)

pub record Rolls (answer : Answer) (old new : Pass) : Type 0 where
  pub answered : IsRollAnswer answer
  pub later : IsLater old new
  pub own : IsQuietPass old new
  -- each closed word is at or above every synced word seen before
  pub closed : (r : ℕ) → IsRolled answer → (old.known r).synced ≤ (new.known r).closed
  pub fault : answer ≡ RollFault → new.broken ≡ true
  pub used : new.calls ≡ old.calls

abbrev pub Does : Naming → ℕ → Caller → Call → Answer → Pass → Pass → Type 0
Does name time caller (Put r sync batch) answer old new = Puts name time r sync batch caller answer old new
Does name time caller (Scan view r from to) answer old new = Scans name view r from to answer old new
Does name time caller (Flush r family) answer old new = Flushes name r family caller answer old new
Does name time caller Roll answer old new = Rolls answer old new

-- One call of a pass's handler, with its answer.
pub record Step (name : Naming) (time : ℕ) (old : Pass) (reply : Reply) (new : Pass) : Type 0 where
  pub handler : reply.handler ≡ old.handler
  pub does : Does name time (record { handler = reply.handler; call = reply.number }) reply.call reply.answer old new

-- a handler's calls, one after the other
abbrev pub Runs : Naming → ℕ → Pass → List Reply → Pass → Type 0
Runs name time old [] new = new ≡ old
Runs name time old (reply ∷ replies) new = (mid : Pass) × Step name time old reply mid × Runs name time mid replies new
