-- There is one point.
use Rattle.std.proofs.Common.{◌≡◌, ℕ, ◌+◌, ◌<◌, ◌≤◌, List, arith}
use Rattle.region_model.specs.Journal.{IsPoint}

point_le : (last : ℕ) (completed : List ℕ) (p q : ℕ) → IsPoint last completed p → IsPoint last completed q → q ≤ p
point_le last completed p q a b =
    let least : last ≤ p = a.least in
    let no : p < q → ⊥ = λ lt. a.greatest (b.upto (p + 1) (omega arith) (omega arith)) in
    omega (arith, no)

pub one_point : (last : ℕ) (completed : List ℕ) (p q : ℕ) → IsPoint last completed p → IsPoint last completed q → p ≡ q
one_point last completed p q a b = omega (arith, point_le last completed p q a b, point_le last completed q p b a)
