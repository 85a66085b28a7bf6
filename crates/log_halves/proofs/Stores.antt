-- The number of a region's next store.
use Rattle.std.proofs.Common.{◌≡◌, ◌<◌, ◌+◌, ℕ, List, get_or, slice_set, ap, ◌∙◌, get_or-set_same}
use Rattle.log_ledger.proofs.Sets.{within}

-- it is one more where it was set so
pub one_more : (ns : List ℕ) (r : ℕ) (now : List ℕ) → 0 < get_or ns r 0 → now ≡ slice_set ns r (get_or ns r 0 + 1) → get_or now r 0 ≡ get_or ns r 0 + 1
one_more ns r now served is = ap (λ (l : List ℕ). get_or l r 0) is ∙ get_or-set_same ns r (get_or ns r 0 + 1) 0 (within ns r served)
