use Rattle.std.proofs.Common.{◌≡◌, map, take}
use Rattle.log_ledger.specs.Bases.{mark_of}
use Rattle.log_ledger.proofs.base.marks_of.Given as goal

abbrev pub invariant-loop-base : goal.invariant-loop-base
invariant-loop-base l = l.marks.items ≡ map mark_of (take l.base-index l.regions)
