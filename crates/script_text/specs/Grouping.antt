-- The calls of a script by their handlers.
use Rattle.std.specs.Prelude.{ℕ, ◌≤◌}
use Rattle.region_model.specs.Calls.{Call}

-- the call is one of so many handlers'
abbrev pub IsOfHandler : (handlers : ℕ) → ℕ × Call → Type 0
IsOfHandler handlers c = (1 ≤ c.0) × (c.0 ≤ handlers)
