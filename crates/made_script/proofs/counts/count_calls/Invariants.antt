use Rattle.std.proofs.Common.{◌≡◌, ◌*◌, ◌^◌, take}
use Rattle.std.specs.List.{flat_map}
use Rattle.made_script.specs.Counts.{counts_in, AreUpTo}
use Rattle.made_script.proofs.counts.count_calls.Given as goal

-- the handlers so far
abbrev pub invariant-loop-list : goal.invariant-loop-list
invariant-loop-list l = record {
  so_far : l.counts ≡ counts_in (flat_map (λ calls. calls) (take l.list-index l.list-items));
  most : AreUpTo (l.list-index * 2 ^ 44) l.counts;
}
