-- The first closed file above a number that is wholly flushed.
use Rattle.std.specs.Prelude.{◌≡◌, ℕ, ◌<◌, ◌≤◌, Contains}
use Rattle.seq_accounting.specs.Accounts.{Accounts, ClosedFile, AreLower}

-- all that the file has is flushed
abbrev pub IsFlushedFile : Accounts → ClosedFile → Type 0
IsFlushedFile a c = AreLower a c.highest

abbrev pub NoneToGo : Accounts → ℕ → Type 0
NoneToGo a above = (c : ClosedFile) → Contains a.closed c → above < c.file → IsFlushedFile a c → ⊥

-- the least closed file above this number of which all is flushed
pub record IsFirstToGo (a : Accounts) (above file : ℕ) : Type 0 where
  pub which : ClosedFile
  pub there : Contains a.closed which
  pub named : which.file ≡ file
  pub later : above < file
  pub lower : IsFlushedFile a which
  pub least : (c : ClosedFile) → Contains a.closed c → above < c.file → IsFlushedFile a c → file ≤ c.file
