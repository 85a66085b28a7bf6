-- How reading and shipping have ended, but for the last record.
use Rattle.std.specs.Prelude.{◌≡◌, ◌<◌, ℕ, List, [], ◌∷◌, Option, None, Err}
use Rattle.crossbeam_queue.specs.Passes.{view}
use Rattle.append_ring.specs.declared.pass.RingKey.{RingKey}
use Rattle.append_ring.specs.Rules.{RingPlace}
use Rattle.log_model.specs.Files.{Files}
use Rattle.disk_images.specs.Calls.{HasCause}
use Rattle.disk_images.specs.Crash.{DiskView}
use Rattle.chronicle_model.specs.Chronicle.{Placed, Position}
use Rattle.log_tail.specs.declared.refusal.TailRefusal.TheVariants.{DiskFault}
use Rattle.log_tail.specs.Reads.{IsRead, OnlyReads}
use Rattle.ship_queue.specs.declared.reading.Reading.{Reading}
use Rattle.ship_queue.specs.declared.rounds.Ending.{Ending}
use Rattle.ship_queue.specs.declared.rounds.Ending.TheVariants as endings
use Rattle.ship_queue.specs.Messages.{Message}
use Rattle.ship_queue.specs.Course.{HasReadOn, IsAtEnd, IsRefusedAt, LeadsTo}
use Rattle.ship_queue.specs.Sent.{HasSent}
use Rattle.ship_queue.specs.Halves.{AreCut, AreShipped, IsKeyOf}

-- a new ring of one region, whose key is handed out and under which nothing was pushed
pub record IsOpened (ring : RingPlace) (keys : List (Option (RingKey Reading))) (key : RingKey Reading) : Type 0 where
  pub out : keys ≡ None ∷ []
  pub its : IsKeyOf ring key
  pub pushed : (view key.pass).pushed ≡ []

-- why no more was read from the position on
abbrev pub StoppedAt : Files → Position → Ending → Type 0
StoppedAt files q (endings.AtEnd count) = IsAtEnd files q × IsRead files q [] q
StoppedAt files q (endings.Refused e) = IsRefusedAt {T = Reading} files q (Err e)
StoppedAt files q endings.PeerFailed = Unit {0}

-- Of a peer as it was at first, all these were shipped, or it failed somewhere in them.
abbrev pub Shipped : {P : Type 0} → (P → List Message → Type 0) → (P → List Message → Message → Type 0) → P → P → List Placed → Ending → Type 0
Shipped has torn first now xs (endings.AtEnd count) = AreShipped has first now count xs
Shipped has torn first now xs (endings.Refused e) = (m : ℕ) × (m < 64) × HasSent has first now 0 m xs
Shipped has torn first now xs endings.PeerFailed = AreCut has torn first now xs

-- A tail went from p to q, and what it read between them was shipped, up to where the peer failed.
pub record HasGone {D P : Type 0} (told : Type 0) (images : D → DiskView) (disk_faults : D → ℕ) (has : P → List Message → Type 0) (torn : P → List Message → Message → Type 0) (same : P → P → Type 0) (peer_faults : P → ℕ) (p q : Position) (disk_first disk : D) (first now : P) (ending : Ending) : Type 0 where
  pub xs : List Placed
  pub leads : told → LeadsTo (images disk_first).files p q
  pub read : told → HasReadOn (images disk_first).files p q xs
  pub stopped : told → StoppedAt (images disk_first).files q ending
  pub shipped : Shipped has torn first now xs ending
  pub looks : told → OnlyReads (images disk_first) (images disk)
  pub stays : same first now
  pub disk_cause : HasCause (disk_faults disk_first) (disk_faults disk) (ending ≡ endings.Refused DiskFault)
  pub peer_cause : HasCause (peer_faults first) (peer_faults now) (ending ≡ endings.PeerFailed)
