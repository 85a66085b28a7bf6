-- What a peer was shipped of a store's chronicle in several calls, between which the store's log went on: each entry at least
-- once, in order.
use Rattle.std.specs.Prelude.{◌≡◌, ◌⊎◌, List, [], ◌∷◌, ◌++◌, Contains}
use Rattle.cell_model.specs.Lists.{IsPrefix}
use Rattle.chronicle_model.specs.Chronicle.{Placed, IsOrdered, Position, behind, StandsBefore}

-- the second list is the first one with repeats taken out: of each member the first one stays
pub data EachOnce : List Placed → List Placed → Type 0 where
  Nothing : EachOnce [] []
  First : (xs once : List Placed) (x : Placed) → EachOnce xs once → (Contains xs x → ⊥) → EachOnce (xs ++ x ∷ []) (once ++ x ∷ [])
  Again : (xs once : List Placed) (x : Placed) → EachOnce xs once → Contains xs x → EachOnce (xs ++ x ∷ []) once

-- a store's chronicle, what its peer was shipped, and the position that the peer has recorded
pub record Shipping : Type 0 where
  pub chronicle : List Placed
  pub shipped : List Placed
  pub recorded : Position

-- One step: the chronicle grows, after the recorded position; or a call ships a beginning of what stands after the recorded
-- position, and records one up to which it has shipped.
pub data Step (first : Position) (old new : Shipping) : Type 0 where
  Grows : (more : List Placed) → new.chronicle ≡ old.chronicle ++ more → IsOrdered new.chronicle → new.shipped ≡ old.shipped → new.recorded ≡ old.recorded
      → (old.recorded ≡ first) ⊎ (StandsBefore old.recorded more × StandsBefore first more) → Step first old new
  Ships : (more : List Placed) → new.chronicle ≡ old.chronicle → IsPrefix more (behind old.chronicle old.recorded) → new.shipped ≡ old.shipped ++ more
      → (done : List Placed) → IsPrefix done more → behind old.chronicle old.recorded ≡ done ++ behind old.chronicle new.recorded → Step first old new

-- steps, one after the other
abbrev pub Steps : Position → Shipping → List Shipping → Type 0
Steps first old [] = Unit {0}
Steps first old (s ∷ ss) = Step first old s × Steps first s ss

abbrev pub last_of : Shipping → List Shipping → Shipping
last_of old [] = old
last_of old (s ∷ ss) = last_of s ss

-- What was shipped, with repeats taken out, begins what stands after the first position, and reaches the recorded one. So
-- only entries after the recorded position are shipped again.
pub record HasShipped (first : Position) (s : Shipping) : Type 0 where
  pub once : List Placed
  pub is_once : EachOnce s.shipped once
  pub begins : IsPrefix once (behind s.chronicle first)
  pub done : List Placed
  pub reaches : behind s.chronicle first ≡ done ++ behind s.chronicle s.recorded
  pub within : IsPrefix done once

-- nothing is shipped yet, from this position on
abbrev pub unshipped : List Placed → Position → Shipping
unshipped c first = record { chronicle = c; shipped = []; recorded = first }

abbrev pub ShippingGoesOn : Type 0
ShippingGoesOn =
    (first : Position) (c : List Placed) (steps : List Shipping) → IsOrdered c → Steps first (unshipped c first) steps
    → HasShipped first (last_of (unshipped c first) steps)
