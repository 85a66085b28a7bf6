use Rattle.std.proofs.Common.{◌≡◌, List, length, sym, ◌∙◌, ap, subst}
use Rattle.system_fakes.specs.declared.op.Op.{Op}
use Rattle.system_fakes.specs.Order.{one_of}
use Rattle.system_fakes.specs.Table.{held_in}
use Rattle.system_fakes.specs.History.{quiet, after, MeetAll}
use Rattle.system_fakes.specs.Conditions.{AreNamed, AreSingle, AreGiven, HasNoPart, IsCertain}
use Rattle.system_fakes.proofs.history.History.quiet.Goals as goal

pub invariant_of-result : goal.invariant_of-result
invariant_of-result c = let same = sym c.in_ok-copy.ensures in record {
  tied = same ∙ ap (λ (l : List Op). (after (quiet (held_in c.in_ok-copy.field-0)) l).held) (sym c.new.ensures.items);
  met = subst (λ (l : List Op). MeetAll (quiet (held_in c.in_ok-copy.field-0)) l) (sym c.new.ensures.items) tt;
  named = subst AreNamed same c.requires.plain.named;
  single = subst AreSingle same (λ m q i first second. one_of m q (c.requires.plain.single m q i first second));
  given = subst AreGiven same c.requires.plain.given;
  no_part = subst HasNoPart same c.requires.parts;
  certain = subst IsCertain same (ap length c.requires.certain);
}
