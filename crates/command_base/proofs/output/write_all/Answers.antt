use Rattle.std.proofs.Common.{◌++◌, ◌∙◌, ap, take, arith}
use Rattle.std.proofs.lemmas.List.{append_assoc}
use Rattle.command_base.proofs.Pieces.{split_on}
use Rattle.command_base.proofs.output.write_all.Goals as goal

pub loop-rest-preserved : goal.loop-rest-preserved
loop-rest-preserved g c =
    let was = c.loop-rest.invariant in
    record {
      front = was.front ++ take c.in_ok-n.n c.loop-rest.rest.now;
      split = split_on _ was.front c.loop-rest.rest.now c.in_ok-n.n was.split;
      so_far = λ told. (c.in_ok-n.ensures.took told) ∙ ap (λ t. t ++ take c.in_ok-n.n c.loop-rest.rest.now) (was.so_far told) ∙ append_assoc _ was.front (take c.in_ok-n.n c.loop-rest.rest.now);
      later = omega (arith, was.later, c.write.ensures.cause.later);
    }
