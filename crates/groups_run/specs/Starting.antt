-- Servers of opened stores.
use Rattle.std.specs.Prelude.{◌≡◌, ℕ, ◌<◌, ◌≤◌, Option, IfSome}
use Rattle.std.specs.Option.{option_map}
use Rattle.disk_images.specs.declared.disk.Disk.{Ghosts}
use Rattle.group_calls.specs.log_service.log_halves.declared.name.ServiceNaming.{Ghosts as LogGhosts}
use Rattle.group_calls.specs.region_calls.declared.naming.ServerNaming.{Ghosts as NameGhosts}
use Rattle.group_calls.specs.region_calls.declared.store.OpenedStore.{OpenedStore}
use Rattle.group_calls.specs.region_calls.Store.{disk_now, regions_of, handlers_of}
use Rattle.group_calls.specs.region_lock.declared.naming.LockNaming.{Ghosts as LockGhosts}
use Rattle.region_versions.specs.declared.naming.VersionsNaming.{Ghosts as VersionGhosts}
use Rattle.group_calls.specs.group_servers.group_lists.declared.lists.GroupList.{GroupList}
use Rattle.group_calls.specs.group_servers.group_lists.Lists.{AtBoth, count_of}
use Rattle.group_calls.specs.group_servers.Starting.{HasRegionsOf, HasLetGo, HasLetGoAt}
use Rattle.group_calls.specs.Servers.{Servers}

module _ {D N : Type 0} (f : Ghosts D) (s : NameGhosts N) (g : LockGhosts N) (l : LogGhosts N) (v : VersionGhosts N) where
  -- The store of number k, where the one of number n was refused: it is as it was opened, or its server was let go before anybody called it.
  abbrev pub HeldOrLetGo : (k n : ℕ) → OpenedStore D → D → Type 0
  HeldOrLetGo k n o d = (n ≤ k → d ≡ disk_now o) × (k < n → HasLetGo f s g l v d)

  -- the same where there is one
  abbrev pub HeldOrLetGoAt : (k n : ℕ) → Option (OpenedStore D) → Option D → Type 0
  HeldOrLetGoAt k n o d = (n ≤ k → d ≡ option_map disk_now o) × (k < n → HasLetGoAt f s g l v o d)

module _ {D : Type 0} where
  abbrev pub IsAlike : OpenedStore D → OpenedStore D → Type 0
  IsAlike o other = (regions_of other ≡ regions_of o) × (handlers_of other ≡ handlers_of o)

  -- the stores are opened for the same regions and handlers
  pub record AreAlike (opened : GroupList (OpenedStore D)) : Type 0 where
    pub second : IfSome opened.second (IsAlike opened.first)
    pub third : IfSome opened.third (IsAlike opened.first)
    pub fourth : IfSome opened.fourth (IsAlike opened.first)

  -- the servers of these stores
  pub record AreServersOf (opened : GroupList (OpenedStore D)) (s : Servers) : Type 0 where
    pub count : s.count ≡ count_of opened
    pub first : HasRegionsOf opened.first s.first
    pub second : AtBoth HasRegionsOf opened.second s.second
    pub third : AtBoth HasRegionsOf opened.third s.third
    pub fourth : AtBoth HasRegionsOf opened.fourth s.fourth
