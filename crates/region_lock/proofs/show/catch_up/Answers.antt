use Rattle.std.proofs.Common.{◌≡◌, ℕ, ◌+◌, ◌<◌, ◌≤◌, [], ◌∷◌, ◌++◌, length, get_or, refl, sym, ap, ◌∙◌, subst, arith, length-append}
use mathlib.Core.List.{IsPrefix}
use Rattle.region_model.specs.Lines.{Line}
use Rattle.region_versions.specs.Histories.{Beginning, beginning, added}
use Rattle.region_versions.proofs.Fronts.{prefix_trans}
use Rattle.region_lock.proofs.Shows.{prefix_more}
use Rattle.region_lock.proofs.show.catch_up.Goals as goal

pub joining-preserved : goal.joining-preserved
joining-preserved g c =
    let i = c.joining.invariant in
    let h : Beginning = c.joining.history in
    let x : Line = c.index-lines-len.result in
    let now : c.push.new.self ≡ beginning h.region (h.lines ++ x ∷ []) = c.push.ensures ∙ ap (λ b. added b x h) c.if-not-push.false in
    let found : x ≡ get_or c.args.lines.now (length h.lines) x = c.index-lines-len.is ∙ ap (λ (k : ℕ). get_or c.args.lines.now k x) c.len-in-joining.ensures in
    let count : c.args.count ≤ length c.args.lines.now = c.requires.count.0 in
    let below : length h.lines < length c.args.lines.now = omega (arith, c.joining-test.true, c.len.ensures) in
    let more = subst (λ (y : Line). IsPrefix (h.lines ++ y ∷ []) c.args.lines.now) (sym found) (prefix_more h.lines c.args.lines.now x i.2 below) in
    let long : length (h.lines ++ x ∷ []) ≡ length h.lines + 1 = length-append h.lines (x ∷ []) in
    rw now (i.0, prefix_trans c.args.history.now.lines h.lines (h.lines ++ x ∷ []) i.1 (x ∷ [], refl), more, omega (arith, long, c.joining-test.true, c.len.ensures))
