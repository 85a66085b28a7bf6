use Rattle.std.proofs.Common.{◌≤◌, length, subst, List, ℕ}
use Rattle.entry_frame.specs.Spelling.{IsSpelling}
use Rattle.entry_frame.proofs.SpellingLaws.{spelling_bounds}
use Rattle.entry_frame.proofs.bytes.EntryBytes.as_slice.Goals as goal

pub returns-clause-spelled : goal.returns-clause-spelled
returns-clause-spelled c = subst (λ (b : List ℕ). IsSpelling b) c.self.view_is c.self.invariant

pub returns-clause-within : goal.returns-clause-within
returns-clause-within c = subst (λ (b : List ℕ). length b ≤ 1048581) c.self.view_is (spelling_bounds c.self.inside.bytes.items c.self.invariant).most
