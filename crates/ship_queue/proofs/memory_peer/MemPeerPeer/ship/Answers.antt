use Rattle.std.proofs.Common.{◌∙◌, ◌++◌, [], ◌∷◌, List, ap, sym}
use Rattle.std.specs.Option.{option_map}
use Rattle.chronicle_model.specs.Chronicle.{Placed}
use Rattle.log_tail.specs.Position.{position_of}
use Rattle.ship_queue.specs.Messages.{placed}
use Rattle.ship_queue.proofs.Told.{shipped_entry, recorded_entry}
use Rattle.ship_queue.proofs.memory_peer.MemPeerPeer.ship.Goals as goal

pub returns-in-Ok-clause-shipped : goal.returns-in-Ok-clause-shipped
returns-in-Ok-clause-shipped c ms h =
    let x : Placed = placed c.args.at c.args.entry.now in (
      c.in-Ok.ensures.kept ∙ ap (λ (l : List Placed). l ++ x ∷ []) h.0 ∙ sym (shipped_entry ms x),
      ap (option_map position_of) c.in-Ok.ensures.others.0 ∙ h.1 ∙ sym (recorded_entry ms x),
    )
