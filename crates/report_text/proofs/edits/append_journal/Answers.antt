use Rattle.std.proofs.Common.{◌<◌, ◌^◌, rules, subst}
use Rattle.std.specs.List.{AllByRecursion}
use Rattle.report_text.specs.Reading.{IsEditLine, IsRegionLine}
use Rattle.report_text.proofs.edits.append_journal.Goals as goal

pub returns-clause-reads : goal.returns-clause-reads
returns-clause-reads c =
    let region : c.region.inside.region < 2 ^ 64 = search rules in
    let told = c.append_numbers.ensures.reads in
    subst IsRegionLine c.region.view_is (record { numbers = (region, (told.0, (told.1, tt))); edits = subst (AllByRecursion IsEditLine) c.as_slice.ensures c.in_ok-append_edits.ensures.reads })
