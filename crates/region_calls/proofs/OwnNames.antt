-- A name that an opened store has of itself: what a caller picks for `named`.
use Rattle.std.proofs.Common.{ℕ, List, length, refl}
use Rattle.disk_images.specs.declared.disk.Disk.{Ghosts as Disks}
use Rattle.pass_calls.specs.log_service.log_halves.declared.name.ServiceNaming.{Ghosts as ServiceNames}
use Rattle.region_model.specs.Journal.{Caller}
use Rattle.pass_calls.specs.region_lock.declared.naming.LockNaming.{Ghosts as LockNames}
use Rattle.region_versions.specs.declared.naming.VersionsNaming.{Ghosts as VersionsNames}
use Rattle.region_calls.specs.declared.naming.ServerNaming.{Ghosts as ServerNames}
use Rattle.region_calls.specs.declared.store.OpenedStore.{OpenedStore}
use Rattle.region_calls.specs.Names.{name_of, IsNameOf}
use Rattle.region_calls.specs.Seeds.{base_at, book_at, lasts_of, table_at}
use Rattle.region_calls.specs.Store.{bases_of, books_of, desks_of, disk_begun, disk_found, disk_now, chain_ring_of, handlers_of, ring_of, spents_of}

-- its server, of whose regions these calls are the flushes
abbrev pub server_named : {D N : Type 0} → Disks D → (ℕ → List Caller) → OpenedStore D → ServerNames N
server_named disk flushes store = record {
  name = name_of (length (lasts_of (bases_of store))) (handlers_of store) (base_at (bases_of store)) flushes;
  found = (disk.view (disk_found store)).files;
  found_faults = disk.faults (disk_found store);
}

-- its locks
abbrev pub locks_named : {D N : Type 0} → (ℕ → List Caller) → OpenedStore D → LockNames N
locks_named flushes store = record {
  desk = table_at (desks_of store);
  spent = table_at (spents_of store);
  flushes = flushes;
  handlers = handlers_of store;
}

-- its log
abbrev pub service_named : {D N : Type 0} → Disks D → OpenedStore D → ServiceNames N
service_named disk store = record {
  ring = ring_of store;
  chain_ring = chain_ring_of store;
  lasts = lasts_of (bases_of store);
  begun = (disk.view (disk_begun store)).files;
  start = (disk.view (disk_now store)).clock;
  faults = disk.faults (disk_now store);
  past = (disk.view (disk_now store)).image;
  came = λ items held. Unit {0};
  came_out = λ v w x pops was got. tt;
  came_in = λ items x was. tt;
}

-- its versions
abbrev pub versions_named : {D N : Type 0} → OpenedStore D → VersionsNames N
versions_named store = record { book = book_at (books_of store); region_base = base_at (bases_of store) }

-- these four are the store's name
pub own_name : {D N : Type 0} (disk : Disks D) (flushes : ℕ → List Caller) (store : OpenedStore D)
    → IsNameOf {N = N} disk (server_named disk flushes store) (locks_named flushes store) (service_named disk store) (versions_named store) store
own_name disk flushes store = record {
  name_is = refl;
  handlers_are = refl;
  lasts_are = refl;
  rings_are = (refl, refl);
  tables_are = λ r low high. record { desk_is = refl; spent_is = refl; book_is = refl; base_is = refl };
  begins = (refl, refl, refl);
  past_is = λ t J before. ((λ left. left), (λ left. left));
  came_none = tt;
  found_is = (refl, refl);
}
