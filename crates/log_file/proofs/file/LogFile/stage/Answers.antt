use Rattle.std.proofs.Common.{[], ◌∷◌, arith, length-append, sym, ◌∙◌, subst}
use Rattle.log_model.specs.Files.{key_of}
use Rattle.log_model.specs.LogText.{IsEntryOf, in_version}
use Rattle.log_file.specs.Open.{OpenLog, IsStaged}
use Rattle.log_file.proofs.Texts.{one_staged, each_append}
use Rattle.log_file.proofs.file.LogFile.stage.Goals as goal

pub returns-clause-staged : goal.returns-clause-staged
returns-clause-staged c batch e is_staged is of =
    let was = subst (λ (l : OpenLog). IsStaged l batch) (sym c.self.view_is) is_staged in
    let here = subst (λ (l : OpenLog). IsEntryOf (in_version 2 (key_of l.name)) e) (sym c.self.view_is) of in
    record {
      each = each_append c.self.inside.name batch (e ∷ []) was.each (here, tt);
      bytes = one_staged batch e c.as_slice-frame.result.now c.self.inside.stage c.add.new.self (c.as_slice-frame.ensures.value ∙ is) was.bytes c.add.ensures.first c.add.ensures.next;
      count = omega (arith, was.count, length-append batch (e ∷ []));
    }
