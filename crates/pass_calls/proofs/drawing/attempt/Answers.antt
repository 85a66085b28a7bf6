use Rattle.std.proofs.Common.{◌≡◌, ℕ, ◌≤◌, Bool, true, false, sym, ap, ◌∙◌, subst}
use Rattle.region_model.specs.Lines.{last_in}
use Rattle.region_state.specs.States.{write_point}
use Rattle.region_lock.specs.Jobs.{IsJob}
use Rattle.region_lock.specs.log_service.declared.tally.Watch.{Watch}
use Rattle.region_lock.specs.log_service.Tallies.{found_full, watched}
use Rattle.region_lock.specs.Parts.{Part}
use Rattle.pass_calls.proofs.drawing.attempt.Goals as goal

pub draw-tried-requires-clause-hand : goal.draw-tried-requires-clause-hand
draw-tried-requires-clause-hand g c =
    let there : c.deref_mut.result.now.state.region ≡ c.args.at.now.viewer.region = ap (λ (p : Part). p.state.region) c.deref_mut.ensures.value ∙ c.hold.ensures.region ∙ c.region-region.ensures in
    c.args.at.now.of_desk ∙ ap g.N.LockNaming.desk (sym there)

pub draw-tried-requires-clause-told : goal.draw-tried-requires-clause-told
draw-tried-requires-clause-told g c =
    let there : c.deref_mut.result.now.state.region ≡ c.args.at.now.viewer.region = ap (λ (p : Part). p.state.region) c.deref_mut.ensures.value ∙ c.hold.ensures.region ∙ c.region-region.ensures in
    c.args.at.now.of_spent ∙ ap g.N.LockNaming.spent (sym there)

pub draw-tried-requires-clause-job : goal.draw-tried-requires-clause-job
draw-tried-requires-clause-job g c =
    let there : c.deref_mut.result.now.state.region ≡ c.args.at.now.viewer.region = ap (λ (p : Part). p.state.region) c.deref_mut.ensures.value ∙ c.hold.ensures.region ∙ c.region-region.ensures in
    subst (λ (r : ℕ). IsJob r c.args.job) (sym there) c.requires.job

pub returns-in-Begun-clause-drawn : goal.returns-in-Begun-clause-drawn
returns-in-Begun-clause-drawn g c =
    let point : c.seen-seen.result ≤ write_point c.deref_mut.result.now.state = subst (λ (p : Part). c.seen-seen.result ≤ write_point p.state) (sym c.deref_mut.ensures.value) c.hold.ensures.seen in
    let within : last_in (g.N.VersionsNaming.region_base c.args.at.now.viewer.region) c.args.at.now.viewer.lines ≤ write_point c.deref_mut.result.now.state = subst (λ (n : ℕ). n ≤ write_point c.deref_mut.result.now.state) c.seen-seen.ensures point in
    c.in-Begun.ensures.tried _ within

pub returns-else-watch-clause-drawn : goal.returns-else-watch-clause-drawn
returns-else-watch-clause-drawn g c =
    let there : c.deref_mut.result.now.state.region ≡ c.args.at.now.viewer.region = ap (λ (p : Part). p.state.region) c.deref_mut.ensures.value ∙ c.hold.ensures.region ∙ c.region-region.ensures in
    let point : c.seen-seen.result ≤ write_point c.deref_mut.result.now.state = subst (λ (p : Part). c.seen-seen.result ≤ write_point p.state) (sym c.deref_mut.ensures.value) c.hold.ensures.seen in
    let within : last_in (g.N.VersionsNaming.region_base c.args.at.now.viewer.region) c.args.at.now.viewer.lines ≤ write_point c.deref_mut.result.now.state = subst (λ (n : ℕ). n ≤ write_point c.deref_mut.result.now.state) c.seen-seen.ensures point in
    let back = c.in-Again.ensures.tried _ within in
    (back.0, (subst (λ (r : ℕ). IsJob r c.in-Again.back) there back.1.0, back.1.1))

pub returns-then-watch-clause-watched : goal.returns-then-watch-clause-watched
returns-then-watch-clause-watched g c =
    c.watch.ensures.counted ∙ ap (λ (b : Bool). watched b c.draw-tried.new.watch) c.if-watch.true ∙ ap (λ (w : Watch). watched true w) c.in-Again.ensures.counted

pub returns-else-watch-clause-watched : goal.returns-else-watch-clause-watched
returns-else-watch-clause-watched g c =
    c.watch.ensures.counted ∙ ap (λ (b : Bool). watched b c.draw-tried.new.watch) c.if-watch.false ∙ ap (λ (w : Watch). watched false w) c.in-Again.ensures.counted
