use Rattle.std.proofs.Common.{rules, refl}
use mathlib.Core.Option.{none}
use Rattle.atomic_table.specs.Table.{step}
use Rattle.hand_register.proofs.Moves.{marks_at}
use Rattle.hand_register.proofs.desk.Desk.mark.Goals as goal

pub store-requires : goal.store-requires
store-requires g c = (search rules, search rules, marks_at _ _ _ _ (step c.self.inside.table.shared.table_id.slots 0 c.args.mark 0 none) (λ n. c.args.mark) c.take_in.ensures.came refl refl)
