-- The first bytes of a row as a number, by which most rows are told apart.
use Rattle.std.specs.Prelude.{◌≡◌, ℕ, zero, suc, ◌+◌, ◌*◌, ◌<◌, List, get_or}

-- the first n bytes as a number, the first of them the highest, with zeros after the last where there are fewer
abbrev pub word_of : ℕ → List ℕ → ℕ
word_of zero row = 0
word_of (suc n) row = word_of n row * 256 + get_or row n 0

abbrev pub prefix_word : List ℕ → ℕ
prefix_word row = word_of 8 row

-- the word is the row's, whose first bytes are bytes
pub record IsPrefix (prefix : ℕ) (row : List ℕ) : Type 0 where
  pub word : prefix ≡ prefix_word row
  pub bytes : (i : ℕ) → i < 8 → get_or row i 0 < 256
