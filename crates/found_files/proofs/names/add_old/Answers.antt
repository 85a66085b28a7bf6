use Rattle.std.proofs.Common.{inl, inr, sym, ◌∙◌}
use Rattle.found_files.proofs.OldNames.{old_pushed, other_pushed}
use Rattle.found_files.proofs.names.add_old.Goals as goal

pub returns-in_ok-push-in-Old : goal.returns-in_ok-push-in-Old
returns-in_ok-push-in-Old c names same n = old_pushed names c.args.name c.args.numbers.now.items c.push.new.self.items c.in-Old.is c.in_ok-push-in-Old.ensures.items same n

pub returns-in-Log : goal.returns-in-Log
returns-in-Log c names same n = other_pushed names c.args.name c.args.numbers.now.items (λ old. elim c.in-Log.is as (λ _. ⊥) [ inl log ↦ absurd (cc (sym log ∙ old)) | inr (inl store) ↦ absurd (cc (sym store ∙ old)) | inr (inr edits) ↦ absurd (cc (sym edits ∙ old)) ]) same n
