-- A store that was recovered.
use Rattle.std.specs.Prelude.{◌≡◌, length, IsTrue}
use Rattle.log_model.specs.Files.{IsSound}
use Rattle.disk_images.specs.declared.disk.Disk.{Ghosts}
use Rattle.recovery_laws.specs.Alike.{AllAlike}
use Rattle.region_replay.specs.Cleared.{IsReady}
use Rattle.region_replay.specs.Opened.{AreOf, AtMostOneHigher}
use Rattle.group_servers.specs.declared.recovering.FoundStore.{FoundStore}
use Rattle.group_servers.specs.Refusals.{GoesOn}

module _ {D : Type 0} where
  -- its disk was found so
  abbrev pub IsFoundAs : FoundStore D → D → Type 0
  IsFoundAs store disk = store.found.value ≡ disk

  -- it stands so on this disk: a log may be begun there
  pub record IsRecovered (g : Ghosts D) (store : FoundStore D) (disk : D) : Type 0 where
    pub all : length store.recovered ≡ 64
    pub goes_on : GoesOn g store.found.value disk
    pub sound : IsTrue g.told → IsSound (g.view store.found.value).files
    pub ready : IsTrue g.told → IsReady (g.view disk)
    pub alike : IsTrue g.told → AllAlike (g.view store.found.value).files (g.view disk).files
    pub names : IsTrue g.told → AtMostOneHigher (g.view store.found.value).files (g.view disk).files
    pub recovered : IsTrue g.told → AreOf (g.view store.found.value).files (g.view disk).files 1 store.recovered
