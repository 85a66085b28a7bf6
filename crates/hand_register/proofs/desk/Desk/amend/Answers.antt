use Rattle.std.proofs.Common.{rules, refl, ◌==◌}
use prog.Atomic.{either}
use mathlib.Core.Option.{some}
use Rattle.atomic_table.specs.Table.{step}
use Rattle.hand_register.proofs.Moves.{amends_at}
use Rattle.hand_register.proofs.desk.Desk.amend.Goals as goal

pub compare_exchange_with-requires : goal.compare_exchange_with-requires
compare_exchange_with-requires g c = (search rules, search rules, amends_at _ _ _ _ (step c.self.inside.table.shared.table_id.slots 0 0 0 (some c.args.value.now)) (λ n. either (n == 0) 0 n) c.take_in.ensures.came refl refl)
