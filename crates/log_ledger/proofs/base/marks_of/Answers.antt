use Rattle.std.proofs.Common.{List, [], ◌∷◌, ◌++◌, get_or, sym, ap, ◌∙◌}
use Rattle.std.proofs.lemmas.List.{map_more}
use Rattle.seq_accounting.specs.declared.region.RegionMark.{RegionMark}
use Rattle.log_ledger.specs.declared.base.RegionBase.{RegionBase}
use Rattle.log_ledger.specs.Bases.{mark_of}
use Rattle.log_ledger.proofs.base.marks_of.Goals as goal

abbrev nobody : RegionBase
nobody = record { region = 0; flushed = 0; next_store = 0 }

pub loop-base-preserved : goal.loop-base-preserved
loop-base-preserved c =
    let mark = mark_of (get_or c.args.regions.now c.loop-base.base-index nobody) in
    c.in_ok-push.ensures.items ∙ ap (λ (marks : List RegionMark). marks ++ mark ∷ []) c.loop-base.invariant ∙ sym (map_more mark_of c.args.regions.now c.loop-base.base-index nobody c.loop-base-test.true)
