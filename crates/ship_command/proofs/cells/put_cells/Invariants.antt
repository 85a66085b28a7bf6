use Rattle.std.proofs.Common.{◌≡◌, ◌≤◌, ◌++◌, IsTrue, take}
use Rattle.std.specs.List.{flat_map}
use Rattle.cell_model.specs.Cell.{Cell}
use Rattle.script_model.specs.Report.{cell_line}
use Rattle.ship_command.proofs.cells.put_cells.Given as goal

abbrev pub invariant-loop-cell : goal.invariant-loop-cell
invariant-loop-cell g l = record {
  so_far : IsTrue g.K.Sink.told → g.K.Sink.taken l.out ++ l.held.items
      ≡ (g.K.Sink.taken l.initial.out ++ l.initial.held.items) ++ flat_map (λ (c : Cell). cell_line (l.number, c)) (take l.cell-index l.cells);
  later : g.K.Sink.faults l.initial.out ≤ g.K.Sink.faults l.out;
}
