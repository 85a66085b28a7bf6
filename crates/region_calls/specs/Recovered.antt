-- What an opening begins with: a disk whose files were recovered.
use Rattle.std.specs.Prelude.{◌≡◌, ◌≤◌, List, length, IsTrue}
use Rattle.recovery_laws.specs.Alike.{AllAlike}
use Rattle.disk_images.specs.declared.disk.Disk.{Ghosts}
use Rattle.region_replay.specs.wal_split.Moments.{During, WasOrAlike}
use Rattle.region_replay.specs.Cleared.{IsReady}
use Rattle.region_replay.specs.Opened.{AreOf, AtMostOneHigher}
use Rattle.region_replay.specs.Ready.{Found}

-- from the disk as it was found the disk as it is now was recovered, and these are the regions
pub record WasRecovered {D : Type 0} (g : Ghosts D) (found now : D) (regions : List Found) : Type 0 where
  -- regions 1 to 64, each as it was recovered
  pub count : length regions ≡ 64
  pub each : IsTrue g.told → AreOf (g.view found).files (g.view now).files 1 regions
  -- at each moment so far each image is one of the first moment, or is fit and recovers alike for every region
  pub so_far : IsTrue g.told → During (WasOrAlike (g.view found)) (g.view found) (g.view now)
  -- a log can be begun on it: no log and no edits file is left, in any image
  pub ready : IsTrue g.told → IsReady (g.view now)
  -- the files recover as those that were found
  pub alike : IsTrue g.told → AllAlike (g.view found).files (g.view now).files
  -- a name's number is at most one above the greatest one found
  pub higher : IsTrue g.told → AtMostOneHigher (g.view found).files (g.view now).files
  -- the disk has not failed less often since
  pub later : g.faults found ≤ g.faults now
