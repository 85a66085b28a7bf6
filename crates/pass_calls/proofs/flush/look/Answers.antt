use Rattle.std.proofs.Common.{◌≡◌, ℕ, ◌≤◌, Contains, refl, ap, sym, ◌∙◌, subst}
use Rattle.region_model.specs.Lines.{last_in}
use Rattle.region_state.specs.States.{write_point}
use Rattle.region_lock.specs.Marks.{IsLookedAt}
use Rattle.region_lock.specs.Parts.{Part}
use Rattle.pass_calls.proofs.FlushLaws.{look_at, looked_list}
use Rattle.pass_calls.proofs.flush.look.Goals as goal

pub returns-clause-looked : goal.returns-clause-looked
returns-clause-looked g c =
    let flushes = g.N.LockNaming.flushes in
    let seen = last_in (g.N.VersionsNaming.region_base c.args.at.now.viewer.region) c.args.at.now.viewer.lines in
    let there : c.deref_mut.result.now.state.region ≡ c.args.at.now.viewer.region = ap (λ (p : Part). p.state.region) c.deref_mut.ensures.value ∙ c.hold.ensures.region ∙ c.region-region.ensures in
    let point : c.seen-seen.result ≤ write_point c.deref_mut.result.now.state = subst (λ (p : Part). c.seen-seen.result ≤ write_point p.state) (sym c.deref_mut.ensures.value) c.hold.ensures.seen in
    let within : seen ≤ write_point c.deref_mut.result.now.state = subst (λ (n : ℕ). n ≤ write_point c.deref_mut.result.now.state) c.seen-seen.ensures point in
    let looked = look_at seen (flushes c.deref_mut.result.now.state.region) c.args.by c.deref_mut.result.now _ c.args.at.now.hand.record c.look.new.hand.record c.look.result c.look.ensures.looked within in
    subst (λ (r : ℕ). IsLookedAt seen (flushes r) c.args.by c.args.at.now.hand.record c.look.result c.look.new.hand.record) there looked

pub look-requires-clause-hand : goal.look-requires-clause-hand
look-requires-clause-hand g c =
    let there : c.deref_mut.result.now.state.region ≡ c.args.at.now.viewer.region = ap (λ (p : Part). p.state.region) c.deref_mut.ensures.value ∙ c.hold.ensures.region ∙ c.region-region.ensures in
    c.args.at.now.of_desk ∙ ap g.N.LockNaming.desk (sym there)

pub look-requires-clause-caller : goal.look-requires-clause-caller
look-requires-clause-caller g c =
    let there : c.deref_mut.result.now.state.region ≡ c.args.at.now.viewer.region = ap (λ (p : Part). p.state.region) c.deref_mut.ensures.value ∙ c.hold.ensures.region ∙ c.region-region.ensures in
    let by = c.requires.caller in
    (by.0, by.1, subst (λ (r : ℕ). Contains (g.N.LockNaming.flushes r) c.args.by) (sym there) by.2)

pub returns-clause-same : goal.returns-clause-same
returns-clause-same g c =
    let listed = looked_list (g.N.LockNaming.flushes c.deref_mut.result.now.state.region) c.args.by c.deref_mut.result.now _ c.args.at.now.hand.record c.look.new.hand.record c.look.result c.look.ensures.looked in
    (refl, c.look.ensures.hand.0, listed, refl)

pub invariant_of-at : goal.invariant_of-at
invariant_of-at g c = record { of_desk = c.look.ensures.hand.1 ∙ c.args.at.now.of_desk; of_spent = c.args.at.now.of_spent; one = c.args.at.now.one ∙ sym c.look.ensures.hand.0 }
