use Rattle.std.proofs.Common.{List, subst}
use Rattle.found_files.specs.declared.found.FoundEntry.{FoundEntry}
use Rattle.found_files.specs.Sorted.{AllAgree, IsFirstPair}
use Rattle.found_files.proofs.finding.in_agreement.Goals as goal

pub returns-in-Some-clause-differ : goal.returns-in-Some-clause-differ
returns-in-Some-clause-differ c = (
  c.in_ok-files.files.entries.items,
  c.in_ok-files.ensures.ordered,
  c.in_ok-files.ensures.same,
  subst (λ (es : List FoundEntry). IsFirstPair es c.in-Some.damage) c.deref.ensures.value c.in-Some.ensures,
)

pub returns-in-None-clause-agree : goal.returns-in-None-clause-agree
returns-in-None-clause-agree c = subst (λ (es : List FoundEntry). AllAgree es) c.deref.ensures.value c.in-None.ensures
