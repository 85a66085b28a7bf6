use Rattle.std.proofs.Common.{◌≡◌, ◌∙◌, sym, ap, subst, List, true, Some, None, ℕ}
use Rattle.std.specs.FinMap.{get, get-empty}
use Rattle.log_model.specs.Files.{name_cmp}
use Rattle.log_model.specs.declared.name.Name.{Name}
use Rattle.system_fakes.specs.declared.op.Op.{Op}
use Rattle.system_fakes.specs.Table.{held_in}
use Rattle.system_fakes.specs.Held.{Held, nothing}
use Rattle.system_fakes.specs.History.{quiet, after, MeetAll}
use Rattle.system_fakes.specs.Conditions.{AreNamed, AreSingle, AreGiven, HasNoPart, IsCertain}
use Rattle.system_fakes.proofs.Steps.{nothing_named, nothing_single, nothing_given, nothing_parts, nothing_certain}
use Rattle.system_fakes.proofs.history.History.new.Goals as goal

pub invariant_of-result : goal.invariant_of-result
invariant_of-result c = record {
  tied = c.new-2.ensures ∙ sym c.new.ensures ∙ ap (λ (l : List Op). (after (quiet (held_in c.new.result)) l).held) (sym c.new-3.ensures.items);
  met = subst (λ (l : List Op). MeetAll (quiet (held_in c.new.result)) l) (sym c.new-3.ensures.items) tt;
  named = subst AreNamed (sym c.new.ensures) nothing_named;
  single = subst AreSingle (sym c.new.ensures) nothing_single;
  given = subst AreGiven (sym c.new.ensures) nothing_given;
  no_part = subst HasNoPart (sym c.new.ensures) nothing_parts;
  certain = subst IsCertain (sym c.new.ensures) nothing_certain;
}

pub returns : goal.returns
returns c = ap (λ (l : List Op). (after (quiet (held_in c.new.result)) l).held.folder) c.new-3.ensures.items ∙ ap (λ (h : Held). h.folder) c.new.ensures
