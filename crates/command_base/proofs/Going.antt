-- What loops over the outside keep.
use Rattle.std.proofs.Common.{◌≡◌, ◌≤◌, ℕ, List, ◌++◌}

-- the front of a text was written, and the rest is left
pub record Writing {K : Type 0} (told : Type 0) (taken : K → List ℕ) (faults : K → ℕ) (first now : K) (text rest : List ℕ) : Type 0 where
  pub front : List ℕ
  pub split : text ≡ front ++ rest
  pub so_far : told → taken now ≡ taken first ++ front
  pub later : faults first ≤ faults now

-- a text was read, and the rest is left
pub record Reading {S : Type 0} (told : Type 0) (left : S → List ℕ) (faults : S → ℕ) (first now : S) (text : List ℕ) : Type 0 where
  pub so_far : told → left first ≡ text ++ left now
  pub later : faults first ≤ faults now
