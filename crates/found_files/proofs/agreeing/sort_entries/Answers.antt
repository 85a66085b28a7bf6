use Rattle.std.proofs.Common.{rules}
use Rattle.std.proofs.lemmas.List.Sorted.{answers_always}
use Rattle.found_files.specs.declared.found.FoundEntry.{FoundEntry}
use Rattle.found_files.proofs.Ordered.{in_order}
use Rattle.found_files.proofs.agreeing.sort_entries.Goals as goal

pub returns-clause-ordered : goal.returns-clause-ordered
returns-clause-ordered c = in_order c.sort_by_key.new.self.items (c.in_ok-sort_by_key.ensures.sorted (λ (x : FoundEntry). (x.entry.region, x.entry.number, x.name)) (answers_always _ _ _ (λ f a r g h. search rules)))
