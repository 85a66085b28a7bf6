-- How many segments hold how many cells.
use Rattle.std.specs.Prelude.{ℕ, ◌^◌, ◌≤◌, List, ◌∷◌, length, map}
use Rattle.std.specs.FinMap.{len}
use Rattle.cell_model.specs.Halves.{IsHalving}
use Rattle.cell_model.specs.Order.{Content}

abbrev pub lengths_of : List Content → List ℕ
lengths_of ms = map (λ (m : Content). len m) ms

-- the oldest of k + 1 segments has 2 ^ k cells at least
abbrev pub FewSegments : Type 0
FewSegments = (n : ℕ) (ns : List ℕ) → IsHalving (n ∷ ns) → 2 ^ length ns ≤ n
