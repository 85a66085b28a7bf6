use Rattle.std.proofs.Common.{◌-◌, ◌∙◌}
use Rattle.region_lock.proofs.Parts.{part_told}
use Rattle.region_lock.proofs.locked.Locked.tell_spent.Goals as goal

pub invariant_of-self : goal.invariant_of-self
invariant_of-self g c =
    let i = c.self.invariant in
    let p = part_told _ _ _ _ _ _ _ _ (c.args.told.now.number - 1) c.args.told.now.record i.0 c.add.ensures.met in
    rw (c.add.ensures.desk, c.add.ensures.hand, c.write_point-last.ensures.point) (p, record { desk = i.1.desk; spent = c.add.ensures.still.2 ∙ i.1.spent; ring = i.1.ring; region = i.1.region; known = i.1.known; hands = i.1.hands }, i.2)
