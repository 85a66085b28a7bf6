use Rattle.std.proofs.Common.{inl, inr, sym, ◌∙◌, arith}
use Rattle.found_files.proofs.names.is_bad.Goals as goal

pub returns-in-Log-clause-bad : goal.returns-in-Log-clause-bad
returns-in-Log-clause-bad c found names old = inr (inr (c.in-Log.is, (old.same c.args.name.number).0 (c.has_number.ensures.there found)))

pub returns-in-Log-clause-good : goal.returns-in-Log-clause-good
returns-in-Log-clause-good c none names old bad = elim bad as (λ _. ⊥) [
  | inl high ↦ omega (arith, high, c.if-name-gt-LAST_NUMBER.false)
  | inr (inl (kind, region)) ↦ elim kind as (λ _. ⊥) [ inl store ↦ absurd (cc (sym c.in-Log.is ∙ store)) | inr edits ↦ absurd (cc (sym c.in-Log.is ∙ edits)) ]
  | inr (inr (log, has)) ↦ c.has_number.ensures.none none old.in_order ((old.same c.args.name.number).1 has)
]
