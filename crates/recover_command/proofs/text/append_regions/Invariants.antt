use Rattle.std.proofs.Common.{◌≡◌, ◌++◌, take}
use Rattle.std.specs.List.{flat_map}
use Rattle.script_model.specs.Outputs.{recovered_line}
use Rattle.recover_command.specs.Lines.{lines_from}
use Rattle.recover_command.proofs.text.append_regions.Given as goal

abbrev pub invariant-loop-before : goal.invariant-loop-before
invariant-loop-before l = l.out.items ≡ l.initial.out.items ++ flat_map recovered_line (lines_from 1 (take l.before l.regions))
