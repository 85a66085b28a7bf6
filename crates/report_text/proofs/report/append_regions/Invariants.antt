use Rattle.std.proofs.Common.{◌≡◌, ◌++◌, take}
use Rattle.std.specs.List.{flat_map, AllByRecursion}
use Rattle.script_model.specs.Report.{region_text}
use Rattle.report_text.specs.Reading.{IsRegionLine}
use Rattle.report_text.proofs.report.append_regions.Given as goal

abbrev pub invariant-loop-region : goal.invariant-loop-region
invariant-loop-region l = (l.out.items ≡ l.initial.out.items ++ flat_map region_text (take l.region-index l.regions)) × AllByRecursion IsRegionLine (take l.region-index l.regions)
