-- The command that compacts a region of a store.
use Rattle.std.specs.Prelude.{◌≡◌, ◌⊎◌, ℕ, ◌<◌, ◌≤◌, List}
use Rattle.log_model.specs.Files.{Files, IsSound}
use Rattle.disk_images.specs.Crash.{DiskView, IsImageNow}
use Rattle.recovery_laws.specs.Alike.{AllAlike}
use Rattle.recovery_laws.specs.Kept.{HasNoLogs}
use Rattle.wal_split.specs.Moments.{WasOrAlike}
use Rattle.region_replay.specs.Ready.{Found}
use Rattle.region_replay.specs.Stored.{StoresReplayed}
use Rattle.store_compact.specs.declared.kind.CompactKind.{CompactKind}
use Rattle.store_compact.specs.declared.kind.Compacted.{Compacted}
use Rattle.store_compact.specs.Compacting.{IsCompacted, HasOneStore, AreCounts, HasCounting, least_files}
use Rattle.command_base.specs.Invocation.{Invocation}
use Rattle.command_base.specs.Ends.{Effects, EndsAs}
use Rattle.command_base.specs.declared.status.Status.{Status}
use Rattle.recover_command.specs.Recovered.{MayOpenAgain}
use Rattle.compact_command.specs.declared.compaction.Compaction.{Compaction}
use Rattle.compact_command.specs.declared.compaction.Compaction.TheVariants as compactions
use Rattle.compact_command.specs.Lines.{compaction_text}

-- ---- the moments

-- Files recover to what those found do and have no log, and these are such files with the region compacted.
abbrev pub IsCompactedFrom : Files → ℕ → CompactKind → Files → Type 0
IsCompactedFrom found r kind files = (opened : Files) × AllAlike found opened × HasNoLogs opened × IsCompacted opened r kind files

-- what a stop at any moment may leave: a crash image of the disk as found, files that recover alike, or such files compacted
abbrev pub CompactMayLeave : ℕ → CompactKind → DiskView → Files → Type 0
CompactMayLeave r kind before J = WasOrAlike before J ⊎ IsCompactedFrom before.files r kind J

-- so it is now
abbrev pub MayCompactAgain : ℕ → CompactKind → Invocation → Type 0
MayCompactAgain r kind o = (J : Files) → IsImageNow o.after J → CompactMayLeave r kind o.before J

-- ---- what was done

-- Of the region in these files so many cells were stored and so many are kept. It has one store file now and in each image, and
-- of those that counted there were enough.
pub record IsMade (opened : Files) (r : ℕ) (kind : CompactKind) (left : DiskView) (counts : Compacted) : Type 0 where
  pub enough : (n : ℕ) × HasCounting opened r n × (least_files kind ≤ n)
  pub told : AreCounts opened r kind counts
  pub compacted : IsCompacted opened r kind left.files
  pub one_store : HasOneStore opened r left.files
  pub images : (J : Files) → IsImageNow left J → IsCompacted opened r kind J × HasOneStore opened r J

-- So few store files of the region count that there is nothing to do. The files stay, and each image recovers alike, without a
-- log.
pub record IsNothing (opened : Files) (r : ℕ) (kind : CompactKind) (left : DiskView) (files : ℕ) : Type 0 where
  pub counting : HasCounting opened r files
  pub few : files < least_files kind
  pub same : left.files ≡ opened
  pub images : (J : Files) → IsImageNow left J → HasNoLogs J × AllAlike opened J

abbrev pub IsCompaction : Files → ℕ → CompactKind → DiskView → Compaction → Type 0
IsCompaction opened r kind left (compactions.Made counts) = IsMade opened r kind left counts
IsCompaction opened r kind left (compactions.Nothing files) = IsNothing opened r kind left files

-- The files as found were sound. These recover to the same, without a log; the region's stores in them are those that were found, and the
-- one that the opening wrote where it wrote one. Of these the region was compacted.
pub record HasCompacted (r : ℕ) (kind : CompactKind) (before after : DiskView) (compaction : Compaction) : Type 0 where
  pub sound : IsSound before.files
  pub opened : Files
  pub alike : AllAlike before.files opened
  pub no_logs : HasNoLogs opened
  pub stores : (x : Found) × StoresReplayed before.files opened r x
  pub done : IsCompaction opened r kind after compaction

-- and this was printed
pub record CompactDone (r : ℕ) (kind : CompactKind) (o : Invocation) (text : List ℕ) : Type 0 where
  pub compaction : Compaction
  pub has : HasCompacted r kind o.before o.after compaction
  pub is : text ≡ compaction_text r compaction

-- ---- the command

-- What stands with a text that it printed. Memory is refused before any file of a compaction is made.
abbrev pub compacts : ℕ → CompactKind → Invocation → Effects
compacts r kind o = record {
  done = λ text. CompactDone r kind o text;
  failed = λ text. ⊥;
  no_memory = MayOpenAgain o;
  no_disk = MayCompactAgain r kind o;
}

-- what stands with each status of the command
abbrev pub EndsCompact : ℕ → CompactKind → Status → Invocation → Type 0 → Type 0 → Type 0
EndsCompact r kind status o rose sank = EndsAs (compacts r kind o) status rose sank o.taken
