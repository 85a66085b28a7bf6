-- One list at the front of another one.
use Rattle.std.specs.Prelude.{◌≡◌, List, ◌++◌}

abbrev pub IsPrefix : {A : Type 0} → List A → List A → Type 0
IsPrefix {A} front whole = (rest : List A) × (whole ≡ front ++ rest)
