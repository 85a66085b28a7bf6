use Rattle.std.proofs.Common.{◌≡◌, [], length, replicate}
use Rattle.hand_register.specs.Rule.{empty, desk_of}
use Rattle.hand_register.specs.Desks.{AreFresh}
use Rattle.hand_register.proofs.desk.Desk.new.Given as goal

abbrev pub invariant-loop-made : goal.invariant-loop-made
invariant-loop-made g l =
    (l.seat.table_id ≡ l.table.shared.table_id)
    × (l.seat.me ≡ (desk_of (replicate l.made empty) l.seat.me.0.outs, []))
    × (length l.list.items ≡ l.made)
    × AreFresh l.seat.table_id 1 l.list.items
