use Rattle.std.proofs.Common.{◌≡◌, ◌≤◌, ◌++◌, IsTrue, take}
use Rattle.std.specs.List.{flat_map}
use Rattle.script_model.specs.Text.{escaped}
use Rattle.ship_command.proofs.tokens.put_bytes.Given as goal

abbrev pub invariant-loop-b : goal.invariant-loop-b
invariant-loop-b g l = record {
  so_far : IsTrue g.K.Sink.told → g.K.Sink.taken l.out ++ l.held.items ≡ (g.K.Sink.taken l.initial.out ++ l.initial.held.items) ++ flat_map escaped (take l.b-index l.bytes);
  later : g.K.Sink.faults l.initial.out ≤ g.K.Sink.faults l.out;
}
