use Rattle.std.proofs.Common.{sym, ap, ◌∙◌, subst}
use mathlib.Core.List.{IsPrefix}
use Rattle.region_model.specs.Journal.{Base}
use Rattle.region_state.specs.States.{State}
use Rattle.region_versions.specs.Histories.{Beginning}
use Rattle.region_versions.proofs.Fronts.{prefix_trans}
use Rattle.region_lock.specs.Met.{ArePlaced}
use Rattle.region_lock.specs.Parts.{Part}
use Rattle.region_lock.proofs.Meeting.{met_at, holds_of}
use Rattle.region_lock.proofs.Places.{placed_in}
use Rattle.region_lock.proofs.Ties.{own_of, told_of}
use Rattle.region_lock.proofs.locked.Locked.meet.Goals as goal

pub returns-clause-own : goal.returns-clause-own
returns-clause-own g c =
    rw (← c.self.view_is) (own_of c.self.inside.desk.records c.self.inside.state.lines _ _ _ _ c.self.invariant.0.own c.meet.ensures.given c.meet.ensures.met c.meet.ensures.same.1 c.meet.ensures.still.0)

pub returns-clause-spent : goal.returns-clause-spent
returns-clause-spent g c =
    rw (← c.self.view_is) (told_of c.self.inside.spent.records _ _ _ _ c.self.invariant.0.told c.meet-2.ensures.met c.meet-2.ensures.same.1)

pub returns-clause-met : goal.returns-clause-met
returns-clause-met g c is n seat =
    let i = c.self.invariant in
    let s : State = c.self.inside.state in
    let viewed = c.args.at.now.viewer.lines in
    let own = own_of c.self.inside.desk.records s.lines _ _ _ _ i.0.own c.meet.ensures.given c.meet.ensures.met c.meet.ensures.same.1 c.meet.ensures.still.0 in
    let spent = told_of c.self.inside.spent.records _ _ _ _ i.0.told c.meet-2.ensures.met c.meet-2.ensures.same.1 in
    let within = subst (λ (b : Beginning). IsPrefix viewed b.lines) c.front.ensures (holds_of _ c.is_within.result c.is_within.ensures is) in
    let begins = prefix_trans viewed c.self.inside.history.lines s.lines within i.2.front in
    rw (← c.self.view_is) (met_at n s.region _ _ s.base s.lines _ _ _ seat (c.requires ∙ ap (λ (p : Part). p.state.region) (sym c.self.view_is)) own begins spent)

pub returns-clause-placed : goal.returns-clause-placed
returns-clause-placed g c is =
    let i = c.self.invariant in
    let s : State = c.self.inside.state in
    let viewed = c.args.at.now.viewer.lines in
    let own = own_of c.self.inside.desk.records s.lines _ _ _ _ i.0.own c.meet.ensures.given c.meet.ensures.met c.meet.ensures.same.1 c.meet.ensures.still.0 in
    let within = subst (λ (b : Beginning). IsPrefix viewed b.lines) c.front.ensures (holds_of _ c.is_within.result c.is_within.ensures is) in
    let begins = prefix_trans viewed c.self.inside.history.lines s.lines within i.2.front in
    rw (← c.self.view_is) (subst (λ (b : Base). ArePlaced b c.meet.new.hand.record.list viewed) i.1.known
    (placed_in s.region c.meet.new.hand.number s.base s.lines c.meet.new.hand.record.list viewed c.journal-all.ensures.journal own begins))
