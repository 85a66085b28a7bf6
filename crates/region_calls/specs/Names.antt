-- Names of servers.
use Rattle.std.specs.Prelude.{◌≡◌, ℕ, ◌≤◌, List, [], None, length}
use Rattle.atomic_table.specs.Seated.{TableId}
use Rattle.logbook.specs.Pages.{Book}
use Rattle.log_model.specs.Files.{Files}
use Rattle.region_model.specs.Journal.{Base, Caller}
use Rattle.disk_images.specs.declared.disk.Disk.{Ghosts as Disks}
use Rattle.region_versions.specs.Histories.{no_base}
use Rattle.region_versions.specs.declared.naming.VersionsNaming.{Ghosts as VersionsNames}
use Rattle.pass_calls.specs.log_service.log_halves.declared.name.ServiceNaming.{Ghosts as ServiceNames}
use Rattle.pass_calls.specs.region_lock.declared.naming.LockNaming.{Ghosts as LockNames}
use Rattle.server_model.specs.Pass.{Naming}
use Rattle.region_calls.specs.Seeds.{base_at, table_at, book_at, lasts_of}
use Rattle.region_calls.specs.declared.naming.ServerNaming.{Ghosts as ServerNames}
use Rattle.region_calls.specs.declared.store.OpenedStore.{OpenedStore}
use Rattle.region_calls.specs.Store.{disk_now, disk_found, disk_begun, regions_of, handlers_of, desks_of, spents_of, books_of, bases_of, ring_of, chain_ring_of}

-- what stands for a name until a call picks one
abbrev pub no_name : Naming
no_name = record { regions = 0; handlers = 0; bases = λ r. no_base; flushes = λ r. [] }

-- the name of a server with these regions, handlers, bases and flushes
abbrev pub name_of : ℕ → ℕ → (ℕ → Base) → (ℕ → List Caller) → Naming
name_of regions handlers bases flushes = record { regions = regions; handlers = handlers; bases = bases; flushes = flushes }

-- these tables are those of an opened store's regions
pub record AreTablesOf {D : Type 0} (desk spent : ℕ → TableId) (book : ℕ → Book) (base : ℕ → Base) (store : OpenedStore D) (r : ℕ) : Type 0 where
  pub desk_is : desk r ≡ table_at (desks_of store) r
  pub spent_is : spent r ≡ table_at (spents_of store) r
  pub book_is : book r ≡ book_at (books_of store) r
  pub base_is : base r ≡ base_at (bases_of store) r

-- a server's name, in the parts that its four traits name, is that of this opened store
pub record IsNameOf {D N : Type 0} (disk : Disks D) (server : ServerNames N) (locks : LockNames N) (service : ServiceNames N) (versions : VersionsNames N) (store : OpenedStore D) : Type 0 where
  -- the server's name is put together from the parts' names
  pub name_is : server.name ≡ name_of (length service.lasts) locks.handlers versions.region_base locks.flushes
  -- it has the handlers that the store was opened for
  pub handlers_are : locks.handlers ≡ handlers_of store
  -- each region's first number comes after its base's last one
  pub lasts_are : service.lasts ≡ lasts_of (bases_of store)
  -- the log's ring of items and that of chains are the store's
  pub rings_are : (service.ring ≡ ring_of store) × (service.chain_ring ≡ chain_ring_of store)
  -- so are each region's desks, its book and its base
  pub tables_are : (r : ℕ) → 1 ≤ r → r ≤ regions_of store → AreTablesOf locks.desk locks.spent versions.book versions.region_base store r
  -- the service begins with the files on which the log was begun, at the disk's moment, after as many faults
  pub begins : (service.begun ≡ (disk.view (disk_begun store)).files) × (service.start ≡ (disk.view (disk_now store)).clock) × (service.faults ≡ disk.faults (disk_now store))
  -- what a crash could leave at each moment up to the start is what the disk says
  pub past_is : (t : ℕ) (J : Files) → t ≤ service.start → ((disk.view (disk_now store)).image t J → service.past t J) × (service.past t J → (disk.view (disk_now store)).image t J)
  -- nothing came out of the ring of items yet
  pub came_none : service.came [] None
  -- the opening found these files, and by then the disk had failed so often
  pub found_is : (server.found ≡ (disk.view (disk_found store)).files) × (server.found_faults ≡ disk.faults (disk_found store))
