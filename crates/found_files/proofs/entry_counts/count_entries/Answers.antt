use Rattle.std.proofs.Common.{◌∙◌, List, ap, subst}
use Rattle.std.proofs.lemmas.List.{take_all}
use Rattle.found_files.specs.declared.found.FoundEntry.{FoundEntry}
use Rattle.found_files.specs.Counted.{AreCounts}
use Rattle.found_files.proofs.Counts.{none_counted, one_counted}
use Rattle.found_files.proofs.entry_counts.count_entries.Goals as goal

pub loop-entry-init : goal.loop-entry-init
loop-entry-init c = none_counted c.in_ok-counts.counts.items (c.in_ok-counts.ensures.items_if_clones_equal (λ y is. is))

pub loop-entry-preserved : goal.loop-entry-preserved
loop-entry-preserved c =
    let x = c.entry-item.result in
    one_counted c.args.entries.now c.loop-entry.entry-index x c.loop-entry.counts.items c.count_one.new.counts.items c.region_of.result (c.region_of.ensures.0 ∙ ap (λ (y : FoundEntry). y.entry.region) c.entry-item.is) c.region_of.ensures.1
    c.loop-entry-test.true c.count_one.ensures c.loop-entry.invariant

pub returns : goal.returns
returns c =
    subst (λ (xs : List FoundEntry). AreCounts xs c.loop-entry.counts.items) (take_all c.loop-entry.entry-index c.args.entries.now c.loop-entry-test.false) c.loop-entry.invariant
