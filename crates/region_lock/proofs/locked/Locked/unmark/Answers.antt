use Rattle.std.proofs.Common.{◌-◌, ◌∙◌}
use Rattle.hand_register.specs.Desks.{with_mark}
use Rattle.region_lock.proofs.Lists.{length_set}
use Rattle.region_lock.proofs.Parts.{part_unmarked}
use Rattle.region_lock.proofs.locked.Locked.unmark.Goals as goal

pub invariant_of-self : goal.invariant_of-self
invariant_of-self g c =
    let i = c.self.invariant in
    let k = c.args.hand.now.number - 1 in
    let q = c.args.hand.now.record in
    let p = part_unmarked _ _ _ _ _ _ _ _ k q i.0 c.mark.ensures.met c.requires.marked in
    rw (c.mark.ensures.desk, c.mark.ensures.hand) (p, record { desk = c.mark.ensures.still.2 ∙ i.1.desk; spent = i.1.spent; ring = i.1.ring; region = i.1.region; known = i.1.known; hands = length_set c.self.inside.desk.records k (with_mark q 0) ∙ i.1.hands }, i.2)
