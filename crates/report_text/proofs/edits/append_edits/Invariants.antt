use Rattle.std.proofs.Common.{◌≡◌, ◌++◌, take}
use Rattle.std.specs.List.{flat_map, AllByRecursion}
use Rattle.script_model.specs.Report.{edit_text}
use Rattle.report_text.specs.Reading.{IsEditLine}
use Rattle.report_text.proofs.edits.append_edits.Given as goal

abbrev pub invariant-loop-edit : goal.invariant-loop-edit
invariant-loop-edit l = (l.out.items ≡ l.initial.out.items ++ flat_map edit_text (take l.edit-index l.edits)) × AllByRecursion IsEditLine (take l.edit-index l.edits)
