-- Chains: trucks on their way from the consumer to the device. A chain is the list of its trucks, in the order in which they were put in.
use Rattle.std.specs.Prelude.{ℕ, ◌<◌, ◌≤◌, List, [], ◌∷◌, ◌++◌, length}
use Rattle.log_trucks.specs.Held.{Held}
use Rattle.log_halves.specs.Trucks.{AreSpelled, size_of, FollowFrom}

-- the trucks of several chains
abbrev pub all_trucks : List (List Held) → List Held
all_trucks [] = []
all_trucks (l ∷ ls) = l ++ all_trucks ls

abbrev pub IsWholeChain : List Held → Type 0
IsWholeChain ts = (0 < length ts) × (size_of ts ≤ 4194304) × AreSpelled ts

-- each truck is of a region of the log, and each region's numbers follow one another from the start's
abbrev pub AreInOrder : List ℕ → List (List Held) → Type 0
AreInOrder lasts ls = FollowFrom lasts (all_trucks ls)
