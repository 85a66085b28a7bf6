-- The words of a run on several disks: the number of the disks alone, a digit.
use Rattle.std.specs.Prelude.{ℕ, if◌then◌else◌, List, [], ◌∷◌, Option, Some, None, codes}
use Rattle.script_model.specs.Fields.{is}

-- the number that a word names
abbrev pub number_named : List ℕ → Option ℕ
number_named a = if is a (codes "1") then Some 1 else (if is a (codes "2") then Some 2 else (if is a (codes "3") then Some 3 else
    (if is a (codes "4") then Some 4 else None)))

-- that of the one word
abbrev pub disks_named : List (List ℕ) → Option ℕ
disks_named [] = None
disks_named (a ∷ []) = number_named a
disks_named (a ∷ b ∷ words) = None
