use Rattle.std.proofs.Common.{List, ap, ◌∙◌}
use Rattle.region_replay.specs.Ready.{Found}
use Rattle.region_calls.specs.Seeds.{lasts_of, bases_found}
use Rattle.region_calls.proofs.Sown.{take_over}
use Rattle.region_calls.proofs.sowing.lasts_found.Goals as goal

pub returns : goal.returns
returns c = c.loop-one.invariant.0 ∙ ap (λ (l : List Found). lasts_of (bases_found l)) (take_over c.loop-one.one-index c.args.found.now c.loop-one-test.false)
