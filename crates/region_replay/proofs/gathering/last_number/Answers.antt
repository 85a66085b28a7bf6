use Rattle.std.proofs.Common.{◌∙◌, ℕ, ◌+◌, max, List, [], ◌∷◌, ◌++◌, take, sym, ap, subst}
use Rattle.std.proofs.lemmas.List.{take_more}
use Rattle.log_model.specs.Entry.{Entry}
use Rattle.region_replay.specs.Regions.{IsTop}
use Rattle.region_replay.proofs.Finding.{last_more}
use Rattle.region_replay.proofs.gathering.last_number.Goals as goal

pub loop-entry-preserved : goal.loop-entry-preserved
loop-entry-preserved c =
    let es = c.args.entries.now in
    let i = c.loop-entry.entry-index in
    let n = c.loop-entry.last in
    let e = c.entry-item.result in
    let low = c.args.low in
    let more = last_more (take i es) low n e c.loop-entry.invariant in
    subst (λ (m : ℕ). IsTop (take (i + 1) es) low m) (sym (c.max-last.ensures ∙ ap (λ (y : Entry). max n y.number) c.entry.view_is))
    (subst (λ (l : List Entry). IsTop l low (max n e.number)) (sym (take_more es i e c.loop-entry-test.true ∙ ap (λ (y : Entry). take i es ++ y ∷ []) (sym c.entry-item.is))) more)
