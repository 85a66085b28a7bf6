-- The seats of the threads that help groups' logs.
use Rattle.std.specs.Prelude.{◌≡◌, ℕ, zero, suc, length, IfSome}
use Rattle.group_calls.specs.region_calls.Deals.{AreSeatsOf}
use Rattle.group_calls.specs.group_servers.Helping.{seats_at, AreSeatsAt}
use Rattle.groups_run.specs.declared.helpers.GroupHelpers.{GroupHelpers}
use Rattle.group_calls.specs.Servers.{Servers}

-- how many seats of a group are not handed out
abbrev pub held : GroupHelpers → ℕ → ℕ
held hs zero = 0
held hs (suc zero) = length hs.first
held hs (suc (suc zero)) = seats_at hs.second
held hs (suc (suc (suc zero))) = seats_at hs.third
held hs (suc (suc (suc (suc zero)))) = seats_at hs.fourth
held hs (suc (suc (suc (suc (suc n))))) = 0

-- they are of these servers
pub record AreHelpersOf (s : Servers) (hs : GroupHelpers) : Type 0 where
  pub first : AreSeatsOf s.first hs.first
  pub second : AreSeatsAt s.second hs.second
  pub third : AreSeatsAt s.third hs.third
  pub fourth : AreSeatsAt s.fourth hs.fourth

-- two of each group
pub record AreTwoEach (hs : GroupHelpers) : Type 0 where
  pub first : length hs.first ≡ 2
  pub second : IfSome hs.second (λ seats. length seats ≡ 2)
  pub third : IfSome hs.third (λ seats. length seats ≡ 2)
  pub fourth : IfSome hs.fourth (λ seats. length seats ≡ 2)
