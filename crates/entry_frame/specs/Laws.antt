-- Bytes have one reading.
use Rattle.std.specs.Prelude.{◌≡◌, ℕ, List, Option}
use Rattle.log_model.specs.Entry.{Entry, IsEntry, entry_frame}
use Rattle.log_model.specs.LogText.{FileKey, IsLogText, IsDamaged}

abbrev pub FrameIsOneEntry : Type 0
FrameIsOneEntry = (d e : Entry) → IsEntry d → IsEntry e → entry_frame d ≡ entry_frame e → d ≡ e

abbrev pub TextIsOne : Type 0
TextIsOne = (key : FileKey) (bytes : List ℕ) (es ds : List Entry) (a b : Option ℕ) → IsLogText key bytes es a → IsLogText key bytes ds b → (es ≡ ds) × (a ≡ b)

abbrev pub TextIsNotDamaged : Type 0
TextIsNotDamaged = (key : FileKey) (bytes : List ℕ) (es : List Entry) (ended : Option ℕ) (at : ℕ) → IsLogText key bytes es ended → IsDamaged key bytes at → ⊥

abbrev pub DamageIsOne : Type 0
DamageIsOne = (key : FileKey) (bytes : List ℕ) (m n : ℕ) → IsDamaged key bytes m → IsDamaged key bytes n → m ≡ n
