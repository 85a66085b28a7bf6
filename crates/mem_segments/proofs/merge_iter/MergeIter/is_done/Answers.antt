use Rattle.std.proofs.Common.{sym, subst}
use Rattle.mem_segments.specs.Leader.{IsLed}
use Rattle.mem_segments.proofs.Leading.{done_is}
use Rattle.mem_segments.proofs.merge_iter.MergeIter.is_done.Goals as goal

pub returns : goal.returns
returns c = done_is c.self.inside.rests.items c.args.self.now c.leader_of.result c.is_none.result (sym c.self.view_is) (subst (λ lists. IsLed 0 lists c.leader_of.result) c.deref.ensures.value c.leader_of.ensures) c.is_none.ensures
