-- Seats of the threads that help groups' logs.
use Rattle.std.specs.Prelude.{ℕ, ◌+◌, ◌==◌, cond, List, [], ◌∷◌, map}
use Rattle.group_calls.specs.declared.groups.GroupHelper.{GroupHelper}
use Rattle.group_calls.specs.Helpers.{IsHelperOf}
use Rattle.group_calls.specs.Servers.{Servers}

-- each is of these servers
abbrev pub AllHelp : Servers → List GroupHelper → Type 0
AllHelp s [] = Unit {0}
AllHelp s (h ∷ hs) = IsHelperOf s h × AllHelp s hs

-- how often a number is among these
abbrev pub times : ℕ → List ℕ → ℕ
times k [] = 0
times k (n ∷ ns) = cond (n == k) 1 0 + times k ns

abbrev pub groups_of : List GroupHelper → List ℕ
groups_of hs = map (λ h. h.group) hs

-- how many seats are of this group
abbrev pub seats_of : ℕ → List GroupHelper → ℕ
seats_of k hs = times k (groups_of hs)
