use Rattle.std.proofs.Common.{ℕ, ◌-◌, refl, ap, ◌∙◌, arith}
use Rattle.hand_register.specs.Desks.{with_mark}
use Rattle.region_model.specs.Journal.{Caller}
use Rattle.region_state.specs.States.{State}
use Rattle.region_lock.proofs.Ties.{own_upto}
use Rattle.region_lock.proofs.locked.Locked.look.Goals as goal

pub returns-in-None-clause-looked : goal.returns-in-None-clause-looked
returns-in-None-clause-looked g c =
    let i = c.self.invariant in
    let s : State = c.self.inside.state in
    let q = c.args.hand.now.record in
    let below = own_upto s.region s.base.last (c.args.hand.now.number - 1) c.self.inside.desk.records s.lines q c.journal-all.ensures.journal.numbers i.0.own c.mark.ensures.met in
    let point = c.write_point.ensures.point in
    rw (← c.self.view_is) (point, c.in-None.is, refl, c.mark.ensures.hand ∙ ap (λ (m : ℕ). with_mark q m) (c.from.ensures ∙ ap (λ (d : Caller). d.call) c.by.view_is), λ y is. let lt = below y is in omega (arith, point, lt))
