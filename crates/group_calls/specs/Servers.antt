-- Which servers there are.
use Rattle.std.specs.Prelude.{◌≡◌, ◌≢◌, ℕ, zero, suc, ◌≤◌, Option, Some, None}
use Rattle.group_servers.specs.log_service.Places.{ServiceId}
use Rattle.group_servers.specs.group_lists.Lists.{counted}

-- so many groups, and the id of each one's server
pub record Servers : Type 0 where
  pub count : ℕ
  pub first : ServiceId
  pub second : Option ServiceId
  pub third : Option ServiceId
  pub fourth : Option ServiceId

-- there are so many servers, one for each group
pub record AreServers (count : ℕ) (second third fourth : Option ServiceId) : Type 0 where
  pub some : (1 ≤ count) × (count ≤ 4)
  pub second_there : 2 ≤ count → second ≢ None
  pub third_there : 3 ≤ count → third ≢ None
  pub fourth_there : 4 ≤ count → fourth ≢ None
  pub counted_are : count ≡ counted second third fourth

-- that of a group
abbrev pub server_at : Servers → ℕ → Option ServiceId
server_at s zero = None
server_at s (suc zero) = Some s.first
server_at s (suc (suc zero)) = s.second
server_at s (suc (suc (suc zero))) = s.third
server_at s (suc (suc (suc (suc zero)))) = s.fourth
server_at s (suc (suc (suc (suc (suc n))))) = None
