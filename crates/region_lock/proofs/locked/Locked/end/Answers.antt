use Rattle.std.proofs.Common.{◌≡◌, ℕ, take, ◌+◌, ◌-◌, ◌<◌, ◌≤◌, List, [], ◌∷◌, ◌++◌, length, Contains, sym, ap, ◌∙◌, subst, arith}
use Rattle.hand_register.specs.Desks.{with_last}
use Rattle.region_model.specs.Lines.{Line, IsPending, with_outcome}
use Rattle.region_model.proofs.LineLaws.{length-with_outcome}
use Rattle.region_state.specs.Outcomes.{outcome_at_end}
use Rattle.region_state.specs.States.{State, write_point}
use Rattle.region_lock.proofs.Lists.{length_set, but_last}
use Rattle.region_lock.proofs.Ties.{pending_in}
use Rattle.region_lock.proofs.Parts.{part_ended, place_of}
use Rattle.region_lock.proofs.Shows.{shown_ended}
use Rattle.region_lock.proofs.locked.Locked.end.Goals as goal

pub end_edit-point-requires : goal.end_edit-point-requires
end_edit-point-requires g c = pending_in c.self.inside.desk.records c.self.inside.state.lines (c.args.hand.now.number - 1) c.args.entry c.args.hand.now.record c.self.invariant.0.own c.meet.ensures.met c.requires.last

pub line-requires-clause-behind : goal.line-requires-clause-behind
line-requires-clause-behind g c =
    let s : State = c.self.inside.state in
    let p = place_of s.region s.base s.lines (c.args.hand.now.number - 1) c.self.inside.desk.records c.args.hand.now.record c.args.entry (outcome_at_end c.args.ended) c.journal-all.ensures.journal.numbers c.self.invariant.0.own c.meet.ensures.met c.requires.last in
    let after : s.base.last < c.args.entry = p.after in
    let base : c.end_edit-point.new.self.base.last ≡ s.base.last = ap (λ (t : State). t.base.last) c.end_edit-point.ensures.lines in
    omega (arith, c.number-number.ensures, base)

pub line-requires-clause-within : goal.line-requires-clause-within
line-requires-clause-within g c =
    let s : State = c.self.inside.state in
    let o = outcome_at_end c.args.ended in
    let p = place_of s.region s.base s.lines (c.args.hand.now.number - 1) c.self.inside.desk.records c.args.hand.now.record c.args.entry o c.journal-all.ensures.journal.numbers c.self.invariant.0.own c.meet.ensures.met c.requires.last in
    let within : c.args.entry ≤ s.base.last + length s.lines = p.within in
    let point : write_point c.end_edit-point.new.self ≡ s.base.last + length (with_outcome c.args.entry o s.lines) = ap write_point c.end_edit-point.ensures.lines in
    let long : length (with_outcome c.args.entry o s.lines) ≡ length s.lines = length-with_outcome c.args.entry o s.lines in
    omega (arith, c.number-number.ensures, point, long)

pub invariant_of-self : goal.invariant_of-self
invariant_of-self g c =
    let i = c.self.invariant in
    let s : State = c.self.inside.state in
    let h = c.args.hand.now.number - 1 in
    let q = c.args.hand.now.record in
    let o = outcome_at_end c.args.ended in
    let l = c.requires.last in
    let follows = c.journal-all.ensures.journal.numbers in
    let p = place_of s.region s.base s.lines h c.self.inside.desk.records q c.args.entry o follows i.0.own c.meet.ensures.met l in
    let x' : Line = record l.last { outcome = o } in
    let listed : Contains (with_outcome c.args.entry o s.lines) c.line.result.now = subst (λ (t : State). Contains t.lines c.line.result.now) c.end_edit-point.ensures.lines c.line.ensures.listed in
    let ended : c.line.result.now ≡ x' = p.there c.line.result.now listed (c.line.ensures.number ∙ c.number-number.ensures) in
    let t = part_ended _ s.region s.base s.lines _ _ _ _ h q l.front l.last o i.0 follows c.meet.ensures.met l.is in
    let pending = subst (λ (n : ℕ). IsPending s.lines n) (sym l.number) (pending_in c.self.inside.desk.records s.lines h c.args.entry q i.0.own c.meet.ensures.met l) in
    rw (c.end_edit-point.ensures.lines, c.amend.ensures.desk, c.amend.ensures.hand, ended, c.meet.ensures.same.0, c.meet.ensures.same.1, c.meet.ensures.still.0, ← l.number) (
      t,
      record {
        desk = c.amend.ensures.still.2 ∙ c.meet.ensures.still.2 ∙ i.1.desk;
        spent = i.1.spent;
        ring = i.1.ring;
        region = i.1.region;
        known = i.1.known;
        hands = length_set c.self.inside.desk.records h (with_last q x') ∙ i.1.hands;
      },
      shown_ended s.region s.base.last l.last.number o s.lines _ _ i.2 follows pending,
    )

pub returns-clause-own : goal.returns-clause-own
returns-clause-own g c =
    let i = c.self.invariant in
    let s : State = c.self.inside.state in
    let h = c.args.hand.now.number - 1 in
    let q = c.args.hand.now.record in
    let o = outcome_at_end c.args.ended in
    let l = c.requires.last in
    let p = place_of s.region s.base s.lines h c.self.inside.desk.records q c.args.entry o c.journal-all.ensures.journal.numbers i.0.own c.meet.ensures.met l in
    let x' : Line = record l.last { outcome = o } in
    let listed : Contains (with_outcome c.args.entry o s.lines) c.line.result.now = subst (λ (t : State). Contains t.lines c.line.result.now) c.end_edit-point.ensures.lines c.line.ensures.listed in
    let ended : c.line.result.now ≡ x' = p.there c.line.result.now listed (c.line.ensures.number ∙ c.number-number.ensures) in
    let last : c.amend.new.hand.record.list ≡ l.front ++ x' ∷ [] =
    ap (λ r. r.list) c.amend.ensures.hand ∙ (λ j. (with_last (c.meet.ensures.same.1 j) (ended j)).list) ∙ ap (λ (z : List Line). take (length z - 1) z ++ x' ∷ []) l.is ∙ ap (λ (z : List Line). z ++ x' ∷ []) (but_last l.front l.last) in
    record { front = l.front; last = l.last; before = l.is; after = last }
