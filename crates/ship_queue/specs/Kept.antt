-- What a peer in memory has kept.
use Rattle.std.specs.Prelude.{◌≡◌, List}
use Rattle.std.specs.Option.{option_map}
use Rattle.log_tail.specs.Position.{position_of}
use Rattle.ship_queue.specs.declared.memory_peer.MemPeer.{MemPeer}
use Rattle.ship_queue.specs.Messages.{Message, shipped_in, recorded_in}

-- it was shipped these entries, and the last position among these it has recorded
abbrev pub HasKept : MemPeer → List Message → Type 0
HasKept p ms = (p.shipped.items ≡ shipped_in ms) × (option_map position_of p.recorded ≡ recorded_in ms)
