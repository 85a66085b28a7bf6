use Rattle.std.proofs.Common.{arith}
use Rattle.entry_frame.proofs.SpellingLaws.{spelling_bounds}
use Rattle.entry_frame.proofs.bytes.EntryBytes.len.Goals as goal

pub returns-clause-within : goal.returns-clause-within
returns-clause-within c = let h = spelling_bounds c.self.inside.bytes.items c.self.invariant in omega (arith, h.most, c.len.ensures)
