-- A store that was opened.
use Rattle.std.specs.Prelude.{ℕ, ◌+◌, ◌≤◌, List, [], ◌∷◌}
use Rattle.log_model.specs.declared.name.Name.{Name}
use Rattle.log_model.specs.Files.{Files, IsPresent}
use Rattle.region_replay.specs.Ready.{Found, IsOf}
use Rattle.region_replay.specs.Stored.{StoresReplayed}

-- these are of their regions, from this one on
abbrev pub AreOf : Files → Files → ℕ → List Found → Type 0
AreOf old new r [] = Unit {0}
AreOf old new r (x ∷ xs) = IsOf old new r x × AreOf old new (r + 1) xs

-- of each region from this one on at most one store file is new
abbrev pub AreStoresReplayed : Files → Files → ℕ → List Found → Type 0
AreStoresReplayed old new r [] = Unit {0}
AreStoresReplayed old new r (x ∷ xs) = StoresReplayed old new r x × AreStoresReplayed old new (r + 1) xs

-- no name has a number above one more than the greatest of these files
abbrev pub AtMostOneHigher : Files → Files → Type 0
AtMostOneHigher old new = (n : ℕ) → ((m : Name) → IsPresent old m → m.number ≤ n) → (m : Name) → IsPresent new m → m.number ≤ n + 1
