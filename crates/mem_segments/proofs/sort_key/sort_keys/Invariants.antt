use Rattle.std.proofs.Common.{◌≡◌, map, take}
use Rattle.mem_segments.proofs.sort_key.sort_keys.Given as goal

abbrev pub invariant-loop-row : goal.invariant-loop-row
invariant-loop-row l = map (λ key. key.row.now) l.keys.items ≡ take l.row-index l.rows
