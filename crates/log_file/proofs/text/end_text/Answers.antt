use Rattle.std.proofs.Common.{List, [], ◌∷◌, ℕ, get_or, ap}
use Rattle.log_file.specs.LogText.{behind_end}
use Rattle.log_file.proofs.text.end_text.Goals as goal

pub returns : goal.returns
unfolding behind_end
returns c = ap (λ (r : List ℕ). 2 ∷ 0 ∷ 0 ∷ 0 ∷ 8 ∷ get_or r 0 0 ∷ get_or r 1 0 ∷ get_or r 2 0 ∷ get_or r 3 0 ∷ get_or r 4 0 ∷ get_or r 5 0 ∷ get_or r 6 0 ∷ get_or r 7 0 ∷ 0 ∷ []) c.to_be_bytes.ensures
