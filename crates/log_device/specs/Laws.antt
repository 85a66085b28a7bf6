-- Laws of the definitions.
use Rattle.std.specs.Prelude.{◌≤◌, ◌^◌, ℕ, List, get_or}
use Rattle.log_model.specs.Files.{Files, IsFit, IsSound}
use Rattle.log_device.specs.Bears.{Bears}

-- Fit files with a device's names are sound where those that were found are, and no number passes the limit of names.
abbrev pub BorneNamesAreSound : Type 0
BorneNamesAreSound =
    (found J : Files) (next_store : List ℕ) (last : ℕ) → IsSound found → last ≤ 2 ^ 62 → ((r : ℕ) → get_or next_store r 0 ≤ 2 ^ 62)
    → IsFit J → Bears found next_store last J → IsSound J
