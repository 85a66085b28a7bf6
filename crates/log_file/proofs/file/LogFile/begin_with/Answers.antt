use Rattle.std.proofs.Common.{rules, List, ℕ, refl, sym, ◌∙◌, subst}
use Rattle.disk_images.specs.OneFile.{IsDurableFile}
use Rattle.log_file.proofs.Texts.{length-front-nil, behind_none}
use Rattle.log_file.proofs.Committed.{beginning}
use Rattle.log_file.proofs.file.LogFile.begin_with.Goals as goal

pub returns-in_err-create_durably-clause-begins : goal.returns-in_err-create_durably-clause-begins
returns-in_err-create_durably-clause-begins g c told = record {
  durable = search rules;
  atomic = beginning c.args.name c.new_text.result 3 (g.D.Disk.view c.args.disk.now) (g.D.Disk.view c.create_durably.new.disk) c.new_text.ensures (c.create_durably.ensures.any_moment told);
  no_other_file = c.create_durably.ensures.touches told;
}

pub returns-clause-empty : goal.returns-clause-empty
returns-clause-empty g c = (refl, record { each = tt; bytes = c.clear.ensures ∙ sym behind_none; count = refl })

pub returns-clause-begins : goal.returns-clause-begins
returns-clause-begins g c told = record {
  durable = record {
    each = tt;
    file = subst (λ (t : List ℕ). IsDurableFile (g.D.Disk.view c.create_durably.new.disk) c.args.name t) c.new_text.ensures (c.in_ok-create_durably.ensures.durable told);
    gate = sym (length-front-nil c.args.name.number);
    count = refl;
  };
  atomic = beginning c.args.name c.new_text.result 3 (g.D.Disk.view c.args.disk.now) (g.D.Disk.view c.create_durably.new.disk) c.new_text.ensures (c.create_durably.ensures.any_moment told);
  no_other_file = c.create_durably.ensures.touches told;
}
