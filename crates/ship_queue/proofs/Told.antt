-- What a peer was told in two parts.
use Rattle.std.proofs.Common.{◌≡◌, List, [], ◌∷◌, ◌++◌, Option, Some, None, refl, ap, ◌∙◌, append-nil}
use Rattle.chronicle_model.specs.Chronicle.{Placed, Position}
use Rattle.ship_queue.specs.Messages.{Message, Entry_of, Record_of, shipped_in, recorded_from, recorded_in}

pub shipped_append : (ms ns : List Message) → shipped_in (ms ++ ns) ≡ shipped_in ms ++ shipped_in ns
shipped_append [] ns = refl
shipped_append (Entry_of x ∷ ms) ns = ap (λ (l : List Placed). x ∷ l) (shipped_append ms ns)
shipped_append (Record_of q ∷ ms) ns = shipped_append ms ns

pub recorded_append : (r : Option Position) (ms ns : List Message) → recorded_from r (ms ++ ns) ≡ recorded_from (recorded_from r ms) ns
recorded_append r [] ns = refl
recorded_append r (Entry_of x ∷ ms) ns = recorded_append r ms ns
recorded_append r (Record_of q ∷ ms) ns = recorded_append (Some q) ms ns

pub shipped_record : (ms : List Message) (q : Position) → shipped_in (ms ++ Record_of q ∷ []) ≡ shipped_in ms
shipped_record ms q = shipped_append ms (Record_of q ∷ []) ∙ append-nil (shipped_in ms)

pub recorded_record : (ms : List Message) (q : Position) → recorded_in (ms ++ Record_of q ∷ []) ≡ Some q
recorded_record ms q = recorded_append None ms (Record_of q ∷ [])

pub shipped_entry : (ms : List Message) (x : Placed) → shipped_in (ms ++ Entry_of x ∷ []) ≡ shipped_in ms ++ x ∷ []
shipped_entry ms x = shipped_append ms (Entry_of x ∷ [])

pub recorded_entry : (ms : List Message) (x : Placed) → recorded_in (ms ++ Entry_of x ∷ []) ≡ recorded_in ms
recorded_entry ms x = recorded_append None ms (Entry_of x ∷ [])
