-- Names as they are spelled.
use Rattle.std.specs.Prelude.{◌≡◌, ◌<◌, ◌^◌}
use Rattle.log_model.specs.declared.name.Name.{Name}
use Rattle.log_model.specs.Files.{IsName}
use Rattle.script_model.specs.Outputs.{name_text}

-- the numbers of a name are below 2^32 and 2^64
abbrev pub FitsTypes : Name → Type 0
FitsTypes name = (name.region < 2 ^ 32) × (name.number < 2 ^ 64)

-- two names with one spelling are one name
abbrev pub IsOneName : Type 0
IsOneName = (a b : Name) → IsName a → IsName b → FitsTypes a → FitsTypes b → name_text a ≡ name_text b → a ≡ b
