use Rattle.std.proofs.Common.{rules, refl}
use mathlib.Core.Option.{none}
use Rattle.atomic_table.specs.Table.{step}
use Rattle.hand_register.proofs.Moves.{meets_at}
use Rattle.hand_register.proofs.desk.Desk.meet.Goals as goal

pub load-requires : goal.load-requires
load-requires g c = (search rules, search rules, meets_at _ _ _ _ (step c.self.inside.table.shared.table_id.slots 0 0 0 none) c.take_in.ensures.came refl refl)
