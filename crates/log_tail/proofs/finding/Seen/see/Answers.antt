use Rattle.std.proofs.Common.{inl, inr, refl, sym, ◌∙◌}
use Rattle.log_tail.proofs.Seen.{log_seen, old_seen, other_seen}
use Rattle.log_tail.proofs.finding.Seen.see.Goals as goal

pub returns-in-Log-clause-seen : goal.returns-in-Log-clause-seen
returns-in-Log-clause-seen c names was = log_seen names c.args.name c.args.number c.args.self.now was _ c.in-Log.is refl refl refl

pub returns-in-Old-clause-seen : goal.returns-in-Old-clause-seen
returns-in-Old-clause-seen c names was = old_seen names c.args.name c.args.number c.args.self.now was _ c.in-Old.is refl refl refl

pub returns-in-Store-clause-seen : goal.returns-in-Store-clause-seen
returns-in-Store-clause-seen c names was =
    other_seen names c.args.name c.args.number c.args.self.now was
    (λ log. elim c.in-Store.is as (λ _. ⊥) [ inl store ↦ absurd (cc (sym store ∙ log)) | inr edits ↦ absurd (cc (sym edits ∙ log)) ])
    (λ old. elim c.in-Store.is as (λ _. ⊥) [ inl store ↦ absurd (cc (sym store ∙ old)) | inr edits ↦ absurd (cc (sym edits ∙ old)) ])
