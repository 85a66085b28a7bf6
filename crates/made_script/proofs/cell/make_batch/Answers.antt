use Rattle.std.proofs.Common.{arith}
use Rattle.made_script.proofs.Making.{not_refused}
use Rattle.made_script.proofs.cell.make_batch.Goals as goal

pub unreachable-requires : goal.unreachable-requires
unreachable-requires c =
    not_refused c.in_ok-cells.cells.items c.push.new.self.items c.in_ok-make_cell.field-0 c.args.call c.args.x c.in-Err.field-0 (omega arith)
    c.in_ok-cells.ensures.items c.in_ok-push.ensures.items c.in_ok-make_cell.ensures c.in-Err.ensures.no_memory c.in-Err.ensures.exact
