use Rattle.std.proofs.Common.{◌≡◌, ℕ, ◌+◌, ◌<◌, Some, slice_get, sym, subst, ◌∙◌, arith}
use Rattle.group_servers.specs.Checking.{AreClear}
use Rattle.group_servers.proofs.Looking.{clear_more, looked_at, no_cells, wrong_here}
use Rattle.group_servers.proofs.checking.wrong_in.Goals.{else-group_in-group-via-then-group_in-group+else-has_cells, else-group_in-group-via-else-group_in-group}
use Rattle.group_servers.proofs.checking.wrong_in.Goals as goal

pub returns-then-has_cells-clause-some : goal.returns-then-has_cells-clause-some
returns-then-has_cells-clause-some c =
    let xs = c.args.found.now in
    let n = c.looking.one-index in
    let place = c.looking.invariant.place in
    let low : n < 64 = omega (arith, c.looking-test.true, c.requires.count) in
    let region : c.looking.region + 1 ≡ n + 1 = omega (arith, place) in
    wrong_here c.args.groups c.args.group n (c.looking.region + 1) xs c.one-item.result region low
    (subst (λ (k : ℕ). AreClear c.args.groups c.args.group xs k) place c.looking.invariant.clear) (looked_at xs n c.one-item.result c.looking-test.true c.one-item.is)
    (λ same. c.if-group_in-group.true (c.group_in.ensures.is ∙ same)) (c.has_cells.ensures.0 c.if-has_cells.true)

pub looking-preserved : goal.looking-preserved
looking-preserved c =
    let xs = c.args.found.now in
    let x = c.one-item.result in
    let r = c.looking.region in
    let place = c.looking.invariant.place in
    let now : r + 1 ≡ c.looking.one-index + 1 = omega (arith, place) in
    let at = subst (λ (k : ℕ). slice_get xs k ≡ Some x) (sym place) (looked_at xs c.looking.one-index x c.looking-test.true c.one-item.is) in
    elim c.else-group_in-group.branch [
      | else-group_in-group-via-then-group_in-group+else-has_cells w ↦ record {
        place = now;
        clear = clear_more c.args.groups c.args.group r xs x c.looking.invariant.clear at (λ _. no_cells w.has_cells.result x.base.last w.if-has_cells.false w.has_cells.ensures.1);
      }
      | else-group_in-group-via-else-group_in-group w ↦ record {
        place = now;
        clear = clear_more c.args.groups c.args.group r xs x c.looking.invariant.clear at (λ other. absurd (other (sym c.group_in.ensures.is ∙ w.if-group_in-group.false)));
      }
    ]
