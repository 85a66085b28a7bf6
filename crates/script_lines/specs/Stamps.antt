-- The timestamp that a number gives in a script.
use Rattle.std.specs.Prelude.{ℕ, ◌-◌, ◌^◌, ◌==◌, nat_le, if◌then◌else◌, [], ◌∷◌, Option}
use Rattle.script_model.specs.Fields.{Why, cell_why, first_why}

-- 2 ^ 63 - 1 stands for the time of the script
abbrev pub stamp_of : (time n : ℕ) → ℕ
stamp_of time n = if n == 2 ^ 63 - 1 then time else n

abbrev pub stamp_fault : (time n : ℕ) → Option Why
stamp_fault time n = first_why ((nat_le (2 ^ 63) (stamp_of time n), cell_why 5) ∷ [])
