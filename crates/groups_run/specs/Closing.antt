-- What the closes of several servers leave.
use Rattle.std.specs.Prelude.{◌≡◌, ℕ, Bool, false, ◌||◌, Option, Some, None, IfSome, IfNone}
use Rattle.std.specs.Global.{Vec}
use Rattle.group_calls.specs.region_calls.declared.closed.ClosedRegion.{ClosedRegion}
use Rattle.server_model.specs.Pass.{Naming}
use Rattle.group_calls.specs.group_servers.group_lists.declared.lists.GroupList.{GroupList}
use Rattle.group_calls.specs.group_servers.group_lists.Choosing.{AreChosen}
use Rattle.group_calls.specs.group_servers.group_lists.Lists.{at_group, mapped}
use Rattle.group_calls.specs.group_servers.declared.shutting.ServerEnd.{ServerEnd}
use Rattle.groups_run.specs.declared.closing.GroupsClosed.{GroupsClosed}
use Rattle.group_calls.specs.Servers.{Servers}

module _ {D : Type 0} where
  abbrev pub is_broken : Option (ServerEnd D) → Bool
  is_broken None = false
  is_broken (Some e) = e.broken

  -- each server's regions, where they are there
  abbrev pub regions_in : GroupList (ServerEnd D) → GroupList (Option (Vec ClosedRegion))
  regions_in ends = mapped (λ e. e.regions) ends

  -- what these ends of so many groups come to: the disks, each region of its own group's server, and whether a log is broken
  pub record IsJoined (groups : ℕ) (ends : GroupList (ServerEnd D)) (closed : GroupsClosed D) : Type 0 where
    pub disks : closed.disks ≡ mapped (λ e. e.disk) ends
    pub broken : closed.broken ≡ (ends.first.broken || is_broken ends.second || is_broken ends.third || is_broken ends.fourth)
    pub regions : IfSome closed.regions (λ chosen. AreChosen groups (regions_in ends) chosen.items)
    -- they are left out only where a server's are
    pub none : IfNone closed.regions ((k : ℕ) × (at_group (regions_in ends) k ≡ Some None))

-- the servers that are there have the first one's regions
pub record HaveSameRegions (first second third fourth : Naming) (s : Servers) : Type 0 where
  pub second_same : IfSome s.second (λ _. second.regions ≡ first.regions)
  pub third_same : IfSome s.third (λ _. third.regions ≡ first.regions)
  pub fourth_same : IfSome s.fourth (λ _. fourth.regions ≡ first.regions)
