use Rattle.std.proofs.Common.{rules}
use Rattle.std.specs.Arc.{arc_value}
use Rattle.region_state.proofs.LayerLaws.{some_first, none_first}
use Rattle.region_state.proofs.layers.drop_first.Goals as goal

pub returns-then-is_some-clause-rest : goal.returns-then-is_some-clause-rest
returns-then-is_some-clause-rest c = some_first arc_value c.args.next.now c.args.waiting.now.items (search rules)

pub returns-else-is_some-clause-rest : goal.returns-else-is_some-clause-rest
returns-else-is_some-clause-rest c = none_first arc_value c.args.next.now c.args.waiting.now.items c.pop_front.new.self.items c.pop_front.result (search rules) c.pop_front.ensures.items c.requires (λ le. search rules)
