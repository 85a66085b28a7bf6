use Rattle.std.proofs.Common.{◌≡◌, refl, sym, ap, ◌∙◌}
use Rattle.hand_register.specs.declared.known.Record.{Record}
use Rattle.region_model.specs.Lines.{Line}
use Rattle.region_lock.specs.Parts.{Part}
use Rattle.pass_calls.proofs.flush.unmark.Goals as goal

pub unmark-requires-clause-hand : goal.unmark-requires-clause-hand
unmark-requires-clause-hand g c =
    let there : c.deref_mut.result.now.state.region ≡ c.args.at.now.viewer.region = ap (λ (p : Part). p.state.region) c.deref_mut.ensures.value ∙ c.hold.ensures.region ∙ c.region-region.ensures in
    c.args.at.now.of_desk ∙ ap g.N.LockNaming.desk (sym there)

pub returns-clause-same : goal.returns-clause-same
returns-clause-same g c = (refl, c.unmark.ensures.hand.0, ap (λ (r : Record Line). r.list) c.unmark.ensures.clear, refl)

pub invariant_of-at : goal.invariant_of-at
invariant_of-at g c = record { of_desk = c.unmark.ensures.hand.1 ∙ c.args.at.now.of_desk; of_spent = c.args.at.now.of_spent; one = c.args.at.now.one ∙ sym c.unmark.ensures.hand.0 }
