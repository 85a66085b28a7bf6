-- A log that was begun on a group's disk.
use Rattle.std.specs.Prelude.{◌≡◌, ℕ, IsTrue, Result, Ok, Err}
use Rattle.log_model.specs.Files.{IsSound}
use Rattle.disk_images.specs.declared.disk.Disk.{Ghosts}
use Rattle.handler_threads.specs.region_calls.declared.refusal.StartWhy.{StartWhy}
use Rattle.handler_threads.specs.region_calls.declared.refusal.StartWhy.TheVariants as starts
use Rattle.handler_threads.specs.region_calls.declared.store.OpenedStore.{OpenedStore}
use Rattle.handler_threads.specs.region_calls.Store.{IsStore, disk_now, disk_found, regions_of, handlers_of}
use Rattle.group_servers.specs.declared.beginning.Unbegun.{Unbegun}
use Rattle.group_servers.specs.declared.recovering.FoundStore.{FoundStore}
use Rattle.group_lists.specs.declared.lists.GroupList.{GroupList}
use Rattle.group_servers.specs.declared.refusal.GroupsWhy.{GroupsWhy}
use Rattle.group_servers.specs.declared.refusal.GroupsWhy.TheVariants as whys
use Rattle.group_servers.specs.declared.refusal.GroupsRefusal.{GroupsRefusal}
use Rattle.group_lists.specs.Lists.{mapped}
use Rattle.group_servers.specs.Refusals.{GoesOn, IsNotWrong, Tells}

abbrev pub why_start : StartWhy → GroupsWhy
why_start starts.Memory = whys.Memory
why_start starts.DiskFault = whys.DiskFault
why_start (starts.Damaged damage) = whys.Damaged damage

-- the disks of an opening, whether it was refused or not
abbrev pub disks_left : {D : Type 0} → Result (GroupList (OpenedStore D)) (GroupsRefusal D) → GroupList D
disks_left (Ok opened) = mapped disk_now opened
disks_left (Err e) = e.disks

module _ {D : Type 0} (g : Ghosts D) where
  -- a store that was opened for so many regions and handlers, on a disk that was found so
  pub record IsOpened (regions handlers : ℕ) (found : D) (o : OpenedStore D) : Type 0 where
    pub sizes : (regions_of o ≡ regions) × (handlers_of o ≡ handlers)
    pub store : IsStore g o
    pub found_is : disk_found o ≡ found
    pub sound : IsTrue g.told → IsSound (g.view found).files
    pub goes_on : GoesOn g found (disk_now o)

  abbrev pub IsOpenedFrom : ℕ → ℕ → FoundStore D → OpenedStore D → Type 0
  IsOpenedFrom regions handlers store o = IsOpened regions handlers store.found.value o

  abbrev pub HasGoneOn : FoundStore D → D → Type 0
  HasGoneOn store disk = GoesOn g store.found.value disk

  abbrev pub TellsFrom : GroupsWhy → FoundStore D → D → Type 0
  TellsFrom why store disk = Tells g why store.found.value disk

  -- no log was begun on a disk that was found so
  pub record IsUnbegun (found : D) (e : Unbegun D) : Type 0 where
    pub goes_on : GoesOn g found e.disk
    pub tells : Tells g e.why found e.disk
    pub right : IsNotWrong e.why

  abbrev pub IsUnbegunFrom : FoundStore D → Unbegun D → Type 0
  IsUnbegunFrom store e = IsUnbegun store.found.value e
