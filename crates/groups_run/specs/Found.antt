-- The stores of several servers before they are named.
use Rattle.std.specs.Prelude.{ℕ, Option, Some, None, IfSome}
use Rattle.log_model.specs.Files.{IsSound}
use Rattle.disk_images.specs.Crash.{DiskView}
use Rattle.disk_images.specs.declared.disk.Disk.{Ghosts}
use Rattle.group_calls.specs.group_servers.wal_split.Moments.{During, WasOrAlike}
use Rattle.group_calls.specs.region_calls.declared.store.OpenedStore.{OpenedStore}
use Rattle.group_calls.specs.region_calls.Store.{disk_now, disk_found}
use Rattle.group_calls.specs.group_servers.group_lists.declared.lists.GroupList.{GroupList}
use Rattle.group_calls.specs.group_servers.group_lists.Lists.{at_group}

abbrev pub or_that : {A : Type 0} → A → Option A → A
or_that x None = x
or_that x (Some y) = y

-- the value of a group, and the first one's where there is no such group
abbrev pub value_of : {A : Type 0} → GroupList A → ℕ → A
value_of xs k = or_that xs.first (at_group xs k)

-- what each group's disk holds
abbrev pub views : {D : Type 0} → (D → DiskView) → GroupList D → ℕ → DiskView
views view disks k = view (value_of disks k)

-- what each group's disk held when its store was found
abbrev pub found_views : {D : Type 0} → (D → DiskView) → GroupList (OpenedStore D) → ℕ → DiskView
found_views view opened k = view (disk_found (value_of opened k))

-- the count of faults of each group's disk, as it is
abbrev pub faults_now : {D : Type 0} → (D → ℕ) → GroupList (OpenedStore D) → ℕ → ℕ
faults_now faults opened k = faults (disk_now (value_of opened k))

module _ {D : Type 0} (g : Ghosts D) where
  -- the store's files were sound as they were found, and what its opening went through
  pub record IsFoundSo (o : OpenedStore D) : Type 0 where
    pub sound : IsSound (g.view (disk_found o)).files
    pub any_moment : During (WasOrAlike (g.view (disk_found o))) (g.view (disk_found o)) (g.view (disk_now o))

  -- so it is of each group's store
  pub record AreFound (opened : GroupList (OpenedStore D)) : Type 0 where
    pub first : IsFoundSo opened.first
    pub second : IfSome opened.second IsFoundSo
    pub third : IfSome opened.third IsFoundSo
    pub fourth : IfSome opened.fourth IsFoundSo
