use Rattle.std.proofs.Common.{◌≡◌, ◌-◌, ◌≤◌, length}
use mathlib.Core.List.{IsPrefix}
use Rattle.region_lock.proofs.show.catch_up.Given as goal

abbrev pub invariant-joining : goal.invariant-joining
invariant-joining g l = (l.history.region ≡ l.initial.history.region) × IsPrefix l.initial.history.lines l.history.lines × IsPrefix l.history.lines l.lines × (length l.history.lines ≤ l.count)

abbrev pub decreases-joining : goal.decreases-joining
decreases-joining g l = l.count - length l.history.lines
