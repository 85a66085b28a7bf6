use Rattle.std.proofs.Common.{length, refl, ◌∙◌, arith}
use Rattle.group_lists.proofs.Picking.{taken_more, taken_up}
use Rattle.group_lists.proofs.choosing.take_in.Goals as goal

pub taking-preserved : goal.taking-preserved
taking-preserved g c =
    let inv = c.taking.invariant in
    let others = c.take_one.ensures.others in
    record {
      done = taken_more c.args.groups c.args.group c.taking.place c.args.chosen.now c.args.from.now c.taking.chosen c.taking.from c.take_one.new.chosen inv.done inv.rest c.take_one.ensures.here
          (λ k other. (others k other).0);
      rest = λ k low.
          let now = others k (λ e. absurd (omega (arith, e, low))) in
          let then = inv.rest k (omega (arith, low)) in
          (now.0 ∙ then.0, now.1 ∙ then.1);
    }

pub returns : goal.returns
returns g c =
    taken_up c.args.groups c.args.group (length c.args.chosen.now) c.args.chosen.now c.args.from.now c.taking.chosen refl c.requires.count c.taking.auto.chosen
    (λ k low. c.taking.invariant.done k (omega (arith, low, c.taking-test.false)))
