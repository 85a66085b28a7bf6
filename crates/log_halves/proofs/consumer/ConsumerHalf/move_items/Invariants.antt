use Rattle.std.proofs.Common.{◌≡◌, List, length}
use Rattle.crossbeam_queue.specs.Passes.{view}
use Rattle.log_halves.specs.declared.item.Item.{Item as TheItem}
use Rattle.log_halves.specs.Moves.{HasMoved}
use Rattle.log_halves.proofs.consumer.ConsumerHalf.move_items.Given as goal

abbrev pub invariant-loop-moved : goal.invariant-loop-moved
invariant-loop-moved g l = (xs : List TheItem) × (length xs ≡ l.moved)
    × HasMoved (record { popped = (view l.fn.self.consumer.pass).popped; chain = l.fn.self.chain; held = l.fn.self.held; asked = l.fn.self.asked; handed = (view l.fn.self.chain_key.pass).pushed })
    (record { popped = (view l.self.consumer.pass).popped; chain = l.self.chain; held = l.self.held; asked = l.self.asked; handed = (view l.self.chain_key.pass).pushed }) xs
