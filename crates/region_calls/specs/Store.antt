-- A store that was opened, as contracts see it, and what holds of its parts.
use Rattle.std.specs.Prelude.{◌≡◌, ℕ, ◌≤◌, List, length, map, IsTrue}
use Rattle.atomic_table.specs.Seated.{TableId}
use Rattle.logbook.specs.Pages.{Book}
use Rattle.crossbeam_queue.specs.Passes.{view}
use Rattle.region_model.specs.Journal.{Base}
use Rattle.recovery_laws.specs.Alike.{AllAlike}
use Rattle.disk_images.specs.declared.disk.Disk.{Ghosts}
use Rattle.log_ledger.specs.History.{History}
use Rattle.pass_calls.specs.log_service.log_device.Whole.{disk_of}
use Rattle.pass_calls.specs.log_service.Begun.{AreNewParts, IsFresh, BeginsAs}
use Rattle.region_replay.specs.Opened.{AtMostOneHigher}
use Rattle.region_calls.specs.declared.store.OpenedStore.{OpenedStore}
use Rattle.region_calls.specs.Seeds.{AreSeeds, base_of, desk_of, spent_of, book_of, lasts_of}
use Rattle.region_calls.specs.Bases.{AreBasesOf}
use Rattle.region_calls.specs.Cleared.{AreCleared}

module _ {D : Type 0} where
  -- the disk now, as it was found, and as it was when a log was begun on it
  abbrev pub disk_now : OpenedStore D → D
  disk_now o = disk_of o.device

  abbrev pub disk_found : OpenedStore D → D
  disk_found o = o.found.value

  abbrev pub disk_begun : OpenedStore D → D
  disk_begun o = o.split.value

  -- for how many regions and handlers it was opened
  abbrev pub regions_of : OpenedStore D → ℕ
  regions_of o = o.regions

  abbrev pub handlers_of : OpenedStore D → ℕ
  handlers_of o = o.handlers

  -- of each region, region 1 first: its base, its desks and the book of its history
  abbrev pub bases_of : OpenedStore D → List Base
  bases_of o = map base_of o.seeds.items

  abbrev pub desks_of : OpenedStore D → List TableId
  desks_of o = map desk_of o.seeds.items

  abbrev pub spents_of : OpenedStore D → List TableId
  spents_of o = map spent_of o.seeds.items

  abbrev pub books_of : OpenedStore D → List Book
  books_of o = map book_of o.seeds.items

  -- the log's ring of items, and that of chains
  abbrev pub ring_of : OpenedStore D → TableId
  ring_of o = o.rings.items.ring.id

  abbrev pub chain_ring_of : OpenedStore D → TableId
  chain_ring_of o = o.rings.chains.ring.id

  -- what holds of an opened store
  pub record IsStore (g : Ghosts D) (o : OpenedStore D) : Type 0 where
    pub some : (1 ≤ o.regions) × (o.regions ≤ 64)
    pub hands : (1 ≤ o.handlers) × (o.handlers ≤ 16)
    pub count : length o.seeds.items ≡ o.regions
    pub each : AreSeeds o.handlers 1 o.seeds.items
    pub items : (o.rings.items.ring.capacity ≡ 1024) × AreNewParts (ring_of o) (lasts_of (bases_of o)) o.rings.items.consumer.pass.table_id (view o.rings.items.consumer.pass) o.rings.items.passes
    pub chains : (o.rings.chains.ring.capacity ≡ 2) × AreNewParts (chain_ring_of o) (lasts_of (bases_of o)) o.rings.chains.consumer.pass.table_id (view o.rings.chains.consumer.pass) o.rings.chains.passes
    -- its device has done nothing yet
    pub fresh : IsFresh (lasts_of (bases_of o)) o.device
    pub begins : IsTrue g.told → ∥ ((h : History) × BeginsAs (g.view (disk_begun o)).files (lasts_of (bases_of o)) o.device (g.view (disk_now o)) h) ∥₁
    -- what was found recovers to the same, and its names were bounded so
    pub alike : IsTrue g.told → AllAlike (g.view (disk_found o)).files (g.view (disk_begun o)).files
    pub higher : IsTrue g.told → AtMostOneHigher (g.view (disk_found o)).files (g.view (disk_begun o)).files
    pub recovered : IsTrue g.told → AreBasesOf (g.view (disk_found o)).files 1 (bases_of o)
    pub later : g.faults (disk_found o) ≤ g.faults (disk_now o)
    -- the files on which a log was begun have none yet
    pub cleared : IsTrue g.told → AreCleared (g.view (disk_begun o)).files
