-- Bytes that spell an entry.
use Rattle.std.specs.Prelude.{◌≡◌, ℕ, List, ◌++◌, take, drop}
use Rattle.byteorder.specs.Endian.{big_bytes}
use Rattle.log_model.specs.Entry.{Entry, IsEntry, entry_frame}

-- the bytes are the frame of some entry, without its gate
abbrev pub IsSpelling : List ℕ → Type 0
IsSpelling bytes = ∥ ((e : Entry) × IsEntry e × (bytes ≡ entry_frame e)) ∥₁

-- the bytes with another number after kind, length and region
abbrev pub renumbered : List ℕ → ℕ → List ℕ
renumbered bytes n = take 9 bytes ++ (big_bytes 8 n ++ drop 17 bytes)
