-- What a consumer's turn moves.
use Rattle.std.specs.Prelude.{◌≡◌, ◌⊎◌, ℕ, ◌+◌, ◌<◌, Bool, false, ◌||◌, List, [], ◌∷◌, ◌++◌, length, Option, Some, None}
use Rattle.crossbeam_queue.specs.Fifo.{Held as HeldAt}
use Rattle.crossbeam_queue.specs.Passes.{view}
use Rattle.append_ring.specs.declared.knows.Knows.{Knows}
use Rattle.append_ring.specs.declared.pass.RingKey.{RingKey}
use Rattle.append_ring.specs.Rules.{Possible}
use Rattle.append_ring.specs.Parts.{EachThere, IsDrained}
use Rattle.log_trucks.specs.Held.{Held}
use Rattle.log_halves.specs.declared.consumer.ConsumerHalf.{ConsumerHalf}
use Rattle.log_halves.specs.declared.name.ServiceNaming.{Ghosts}
use Rattle.log_halves.specs.declared.item.Item.{Item}
use Rattle.log_halves.specs.declared.item.Item.TheVariants as items
use Rattle.log_halves.specs.Items.{region_of, number_of, IsWholeItem, appended, asks, held_in}
use Rattle.log_halves.specs.Chains.{IsWholeChain, AreInOrder}
use Rattle.log_halves.specs.Trucks.{size_of}

-- what the consumer's half has popped, and where that stands
pub record Bench : Type 0 where
  pub popped : List Item
  pub chain : List Held
  pub held : Option Item
  pub asked : Bool
  pub handed : List (List Held)

abbrev pub bench_of : {N : Type 0} {G : Ghosts N} → ConsumerHalf N G → Bench
bench_of h = record { popped = (view h.consumer.pass).popped; chain = h.chain; held = h.held; asked = h.asked; handed = (view h.chain_key.pass).pushed }

-- these items were moved: first the held one, then popped ones, the appends among them into the chain, in order
pub record HasMoved (old new : Bench) (xs : List Item) : Type 0 where
  pub more : List Item
  pub popped : new.popped ≡ old.popped ++ more
  pub in_turn : held_in old.held ++ more ≡ xs ++ held_in new.held
  pub chain : new.chain ≡ old.chain ++ appended xs
  pub asked : new.asked ≡ (old.asked || asks xs)
  pub handed : new.handed ≡ old.handed

-- the held item doesn't fit
abbrev pub IsTooLong : Bench → Type 0
IsTooLong b = (truck : _) × (b.held ≡ Some (items.Append truck)) × (4194304 < size_of b.chain + length truck.value.bytes + 1)

-- at a moment the ring of items held so many, and that of chains
abbrev pub HadItems : ℕ → Knows Item → Type 0
HadItems n v = HeldAt n (Possible region_of number_of IsWholeItem (λ _ _. Unit {0}) v)

-- an item wasn't pushed under this pass, and came back: at a moment the ring held 1,024 items
abbrev pub IsGivenBack : RingKey Item → RingKey Item → Item → Item → Type 0
IsGivenBack before after item back = (back ≡ item) × (view after.pass ≡ view before.pass) × HadItems 1024 (view before.pass)

abbrev pub WasEmpty : Knows Item → Type 0
WasEmpty v = HadItems 0 v

abbrev pub WasFull : ℕ → Knows (List Held) → Type 0
WasFull n v = HeldAt n (Possible (λ _. 1) (λ _. None) IsWholeChain AreInOrder v)

-- the chain was handed over; or it stays, since it has no truck or the ring of chains held its capacity at a moment
pub record HasHanded (capacity : ℕ) (seen : Knows (List Held)) (old new : Bench) : Type 0 where
  pub popped : new.popped ≡ old.popped
  pub held : new.held ≡ old.held
  pub chain : ((new.chain ≡ []) × (new.handed ≡ old.handed ++ old.chain ∷ []) × (new.asked ≡ false))
      ⊎ ((new.chain ≡ old.chain) × (new.handed ≡ old.handed) × (new.asked ≡ old.asked) × ((old.chain ≡ []) ⊎ WasFull capacity seen))

-- all that was pushed under these passes was popped and handed over
pub record IsAllMoved (b : Bench) (passes : List (Option (RingKey Item))) : Type 0 where
  pub chain : b.chain ≡ []
  pub held : b.held ≡ None
  pub drained : EachThere (IsDrained region_of b.popped) passes
