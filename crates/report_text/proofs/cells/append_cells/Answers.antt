use Rattle.std.proofs.Common.{rules}
use Rattle.report_text.proofs.LineLaws.{kept_past}
use Rattle.report_text.proofs.cells.append_cells.Goals as goal

pub returns-in_err-append_cell-clause-kept : goal.returns-in_err-append_cell-clause-kept
returns-in_err-append_cell-clause-kept c = kept_past _ _ c.args.out.now.items _ c.loop-row.out.items c.append_cell.new.out.items (search rules) (search rules) c.loop-row.invariant.0 c.append_cell.ensures.kept
