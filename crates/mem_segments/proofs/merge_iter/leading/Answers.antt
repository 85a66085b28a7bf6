use Rattle.std.proofs.Common.{suc, sym, subst}
use Rattle.mem_segments.specs.Leader.{IsLed}
use Rattle.mem_segments.proofs.Leading.{first_of_all, first_of_both}
use Rattle.mem_segments.proofs.merge_iter.leading.Goals as goal

pub returns-in-Some-None : goal.returns-in-Some-None
returns-in-Some-None c = λ after led. first_of_all c.args.place c.in-Some-None.row c.args.rest.now after c.in-Some-None.ensures (subst (IsLed (suc c.args.place) after) c.in-Some-None.is-1 led)

pub returns-in-Less : goal.returns-in-Less
returns-in-Less c = λ after led. first_of_both c.args.place c.in-Some-Some.row c.in-Some-Some.later c.args.rest.now after c.in-Some-Some.ensures (subst (IsLed (suc c.args.place) after) c.in-Some-Some.is-1 led) (sym c.in-Less.ensures)
