-- Numbers that are out, each another: what the tests hold.
use Rattle.std.specs.Prelude.{◌≡◌, ℕ, List, [], ◌∷◌}
use Rattle.write_queue.specs.Numbers.{Numbers, IsOut}

abbrev pub Differ : ℕ → List ℕ → Type 0
Differ n [] = Unit {0}
Differ n (m ∷ ms) = (n ≡ m → ⊥) × Differ n ms

abbrev pub AreOut : Numbers → List ℕ → Type 0
AreOut q [] = Unit {0}
AreOut q (n ∷ ns) = IsOut q n × Differ n ns × AreOut q ns
