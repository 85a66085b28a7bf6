use Rattle.std.proofs.Common.{◌∙◌, sym, ap, subst, List}
use Rattle.disk_fakes.specs.declared.op.Op.{Op}
use Rattle.disk_fakes.specs.Table.{files_in}
use Rattle.disk_fakes.specs.History.{quiet, after}
use Rattle.std.specs.FinMap.{get-empty}
use Rattle.log_model.specs.Files.{Files, content, name_cmp}
use Rattle.disk_fakes.specs.History.{MeetAll}
use Rattle.disk_fakes.specs.Laws.{not_both}
use Rattle.disk_fakes.proofs.history.History.new.Goals as goal

pub invariant_of-result : goal.invariant_of-result
invariant_of-result c = record {
  tied = c.new-2.ensures ∙ sym c.new.ensures ∙ ap (λ (l : List Op). (after (quiet (files_in c.new.result)) l).files) (sym c.new-3.ensures.items);
  met = subst (λ (l : List Op). MeetAll (quiet (files_in c.new.result)) l) (sym c.new-3.ensures.items) tt;
  named = λ m there. not_both (content (files_in c.new.result) m) there (ap (λ (f : Files). content f m) c.new.ensures ∙ get-empty name_cmp m);
}

pub returns-clause-empty : goal.returns-clause-empty
returns-clause-empty c m =
    ap (λ (l : List Op). content (after (quiet (files_in c.new.result)) l).files m) c.new-3.ensures.items
    ∙ ap (λ (f : Files). content f m) c.new.ensures ∙ get-empty name_cmp m
