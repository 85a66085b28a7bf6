use Rattle.std.proofs.Common.{◌≡◌, map, take}
use Rattle.mem_segments.proofs.sort_key.share_keyed.Given as goal

abbrev pub invariant-loop-key : goal.invariant-loop-key
invariant-loop-key l = l.rows.items ≡ map (λ key. key.row.now) (take l.key-index l.keys)
