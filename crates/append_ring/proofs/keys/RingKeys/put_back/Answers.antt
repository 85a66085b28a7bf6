use Rattle.std.proofs.Common.{◌-◌, arith}
use Rattle.append_ring.proofs.Places.{in_place-back}
use Rattle.append_ring.proofs.keys.RingKeys.put_back.Goals as goal

pub invariant_of-self : goal.invariant_of-self
invariant_of-self g c = in_place-back 0 c.self.inside.places.items (c.args.pass.region - 1) c.args.pass c.self.invariant (omega (arith, c.args.pass.of.1))
