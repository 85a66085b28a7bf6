use Rattle.std.proofs.Common.{◌∙◌}
use Rattle.std.specs.Arc.{arc_value}
use Rattle.store_compact.proofs.Halves.{one_more, all_more}
use Rattle.store_compact.proofs.merging.segments_of.Goals as goal

pub loop-store-preserved : goal.loop-store-preserved
loop-store-preserved c = record {
  content = one_more arc_value c.loop-store.parts.items c.push.new.self.items c.in_ok-new.field-0 c.loop-store.yielded c.in-Some.store c.in_ok-push.ensures.items (c.in_ok-new.ensures.ok ∙ c.in_ok-part.ensures.content) c.loop-store.invariant.content;
  within = all_more c.loop-store.yielded c.in-Some.store c.loop-store.invariant.within c.in_ok-part.ensures.within;
}
