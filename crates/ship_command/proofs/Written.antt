-- One line more.
use Rattle.std.proofs.Common.{◌≡◌, ℕ, Bool, List, [], ◌∷◌, ◌++◌, refl, sym, ap, ◌∙◌, append_assoc, append-nil}
use Rattle.std.specs.List.{flat_map}
use Rattle.ship_queue.specs.Messages.{Message}
use Rattle.ship_command.specs.Sinks.{message_text, HasWritten, IsCutIn, IsTorn}
use Rattle.ship_command.proofs.Cuts.{cut_then}

pub texts_of : (ms ns : List Message) → flat_map message_text (ms ++ ns) ≡ flat_map message_text ms ++ flat_map message_text ns
texts_of [] ns = refl
texts_of (k ∷ ms) ns = ap (λ (t : List ℕ). message_text k ++ t) (texts_of ms ns) ∙ sym (append_assoc (message_text k) (flat_map message_text ms) (flat_map message_text ns))

texts : (ms : List Message) (m : Message) → flat_map message_text (ms ++ m ∷ []) ≡ flat_map message_text ms ++ message_text m
texts [] m = append-nil (message_text m)
texts (k ∷ ms) m = ap (λ (t : List ℕ). message_text k ++ t) (texts ms m) ∙ sym (append_assoc (message_text k) (flat_map message_text ms) (message_text m))

pub written_more : (told failed : Bool) (before now new : List ℕ) (ms : List Message) (m : Message) → HasWritten told failed before now ms → new ≡ now ++ message_text m → HasWritten told failed before new (ms ++ m ∷ [])
written_more told failed before now new ms m h is = record {
  tells = h.tells;
  whole = h.whole;
  is = is ∙ ap (λ (t : List ℕ). t ++ message_text m) h.is ∙ append_assoc before (flat_map message_text ms) (message_text m) ∙ ap (λ (t : List ℕ). before ++ t) (sym (texts ms m));
}

pub torn_then : (told failed : Bool) (before now new : List ℕ) (ms : List Message) (m : Message) → HasWritten told failed before now ms → IsCutIn new now (message_text m) → IsTorn told before new ms m
torn_then told failed before now new ms m h cut = record { tells = h.tells; cut = cut_then (flat_map message_text ms) (message_text m) h.is cut }
