use Rattle.std.proofs.Common.{◌≡◌, ◌<◌, ◌++◌, take}
use Rattle.std.specs.List.{flat_map, AllByRecursion}
use Rattle.script_model.specs.Text.{escaped}
use Rattle.report_text.proofs.tokens.append_bytes.Given as goal

abbrev pub invariant-loop-b : goal.invariant-loop-b
invariant-loop-b l = (l.out.items ≡ l.initial.out.items ++ flat_map escaped (take l.b-index l.bytes)) × AllByRecursion (λ b. b < 256) (take l.b-index l.bytes)
