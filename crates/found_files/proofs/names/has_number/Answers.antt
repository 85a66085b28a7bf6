use Rattle.std.proofs.Common.{◌∙◌, sym}
use Rattle.found_files.proofs.OldNames.{not_found}
use Rattle.found_files.proofs.names.has_number.Goals as goal

pub returns-clause-none : goal.returns-clause-none
returns-clause-none c none ordered has = not_found c.args.numbers.now c.args.number c.binary_search.result (sym c.is_ok.ensures.value ∙ none) c.binary_search.ensures.position ordered has
