use Rattle.std.proofs.Common.{◌≡◌, ◌++◌, take, drop, option_map, Bor}
use Rattle.cell_model.specs.Order.{NumberedCell}
use Rattle.mem_segments.specs.Walk.{last_given}
use Rattle.mem_segments.proofs.page.take_cells.Given as goal

abbrev pub invariant-loop-i : goal.invariant-loop-i
invariant-loop-i l = record {
  cells : l.cells ≡ l.fn.cells ++ take l.i l.fn.walk;
  rest : l.walk ≡ drop l.i l.fn.walk;
  last : option_map (λ (row : Bor NumberedCell). row.now) l.last ≡ last_given (option_map (λ (row : Bor NumberedCell). row.now) l.fn.before) (take l.i l.fn.walk);
}
