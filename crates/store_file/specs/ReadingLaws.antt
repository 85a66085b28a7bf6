-- What the definition of a store file's text promises a reader.
use Rattle.std.specs.Prelude.{◌≡◌, ◌<◌, ◌^◌, ℕ, List, length}
use Rattle.log_model.specs.StoreText.{Store, IsStoreText, IsStoreDamaged}

-- a text is that of one store
abbrev pub StoreTextIsOne : Type 0
StoreTextIsOne = (r : ℕ) (bytes : List ℕ) (s t : Store) → IsStoreText r bytes s → IsStoreText r bytes t → s ≡ t

-- a text of fewer than 2^64 bytes, so that its count is that of its cells, is damaged nowhere
abbrev pub StoreTextIsNotDamaged : Type 0
StoreTextIsNotDamaged = (r : ℕ) (bytes : List ℕ) (s : Store) (at : ℕ) → length bytes < 2 ^ 64 → IsStoreText r bytes s → IsStoreDamaged r bytes at → ⊥

-- what is damaged is damaged at one place
abbrev pub StoreDamageIsOne : Type 0
StoreDamageIsOne = (r : ℕ) (bytes : List ℕ) (m n : ℕ) → IsStoreDamaged r bytes m → IsStoreDamaged r bytes n → m ≡ n
