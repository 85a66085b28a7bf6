use Rattle.std.proofs.Common.{ap, ◌∙◌, ℕ, sym, subst}
use Rattle.crossbeam_queue.specs.Passes.{view}
use Rattle.append_ring.specs.declared.knows.Knows.{Knows}
use Rattle.append_ring.specs.Rules.{base_of, end_of, next_or, Follows}
use Rattle.append_ring.proofs.Lists.{end_of-snoc}
use Rattle.log_service.specs.log_halves.declared.item.Item.{Item}
use Rattle.log_service.specs.Items.{number_of}
use Rattle.service_trials.proofs.puts.push.Goals as goal

pub push-requires-clause-follows : goal.push-requires-clause-follows
push-requires-clause-follows g c =
    let i = c.loop-try.invariant in
    subst (λ (p : Knows Item × ℕ × Item). Follows number_of (end_of number_of (base_of p.0.lasts p.1) p.0.pushed) p.2) (λ j. (sym i.view j, sym i.same.1 j, sym i.item j)) c.requires.follows

pub returns-in-Ok-clause-pushed : goal.returns-in-Ok-clause-pushed
returns-in-Ok-clause-pushed g c is =
    let i = c.loop-try.invariant in
    let was = c.loop-try.pass in
    ap (λ (p : Knows Item × ℕ). end_of number_of (base_of p.0.lasts p.1) p.0.pushed) (λ j. (c.in-Ok.ensures.pushed j, c.in-Ok.ensures.same.1 j))
    ∙ (end_of-snoc number_of (base_of (view was.pass).lasts was.region) (view was.pass).pushed c.loop-try.item
    ∙ ap (λ (p : Knows Item × ℕ × Item). next_or number_of (end_of number_of (base_of p.0.lasts p.1) p.0.pushed) (number_of p.2)) (λ j. (i.view j, i.same.1 j, i.item j)))
