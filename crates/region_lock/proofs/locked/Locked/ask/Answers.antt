use Rattle.std.proofs.Common.{◌∙◌}
use Rattle.region_lock.proofs.Parts.{asked}
use Rattle.region_lock.proofs.locked.Locked.ask.Goals as goal

pub invariant_of-self : goal.invariant_of-self
invariant_of-self g c =
    let i = c.self.invariant in
    let p = asked _ _ _ _ _ _ _ c.self.inside.pass c.ask.new.pass _ _ c.ask.result i.0 c.ask.ensures.pushed c.ask.ensures.full c.ask.ensures.same.1 in
    (p, record { desk = i.1.desk; spent = i.1.spent; ring = c.ask.ensures.same.0 ∙ i.1.ring; region = c.ask.ensures.same.1 ∙ i.1.region; known = i.1.known; hands = i.1.hands }, i.2)
