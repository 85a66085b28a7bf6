-- What a compaction of a store that was opened leaves.
use Rattle.std.proofs.Common.{◌≡◌, ℕ, ◌+◌, ◌<◌, ◌≤◌, ◌^◌, List, length, Some, sym, ◌∙◌, subst, arith}
use Rattle.std.specs.FinMap.{get}
use Rattle.log_model.specs.declared.name.Name.{Name}
use Rattle.log_model.specs.LogText.{IsLogText}
use Rattle.log_model.specs.StoreText.{IsStoreText}
use Rattle.log_model.specs.Files.{Files, IsFit, key_of}
use Rattle.log_model.specs.Damage.{HasDamage}
use Rattle.log_model.specs.Damage.HasDamage.{Logged, Stored}
use Rattle.log_model.proofs.DamageLaws.{same_bytes, damaged_there}
use Rattle.log_model.proofs.StoreLaws.{not_damaged}
use Rattle.recovery_laws.specs.Alike.{AllAlike}
use Rattle.recovery_laws.proofs.Turns.{same_alike}
use Rattle.disk_images.specs.Crash.{DiskView, IsImageNow}
use Rattle.disk_images.specs.Calls.{IsTrueDisk}
use Rattle.disk_images.proofs.Moments.{joined, weaker, at_end}
use Rattle.disk_images.proofs.Watching.{was_image}
use Rattle.found_files.specs.Watching.{OnlyWatches}
use Rattle.wal_split.specs.Moments.{During}
use Rattle.region_replay.specs.Cleared.{IsReady}
use Rattle.store_compact.specs.declared.kind.CompactKind.{CompactKind}
use Rattle.store_compact.specs.declared.kind.Compacted.{Compacted}
use Rattle.store_compact.specs.Compacting.{IsCompacted, HasOneStore, AreCounts, HasCounting, least_files}
use Rattle.compact_command.specs.Compacted.{IsMade, IsNothing}

-- ---- what was done

pub made : (opened : Files) (r : ℕ) (kind : CompactKind) (left : DiskView) (counts : Compacted) → IsTrueDisk left → (n : ℕ) × HasCounting opened r n × (least_files kind ≤ n) → AreCounts opened r kind counts
    → ((J : Files) → IsImageNow left J → IsCompacted opened r kind J × HasOneStore opened r J) → IsMade opened r kind left counts
made opened r kind left counts sound enough told images = record {
  enough = enough;
  told = told;
  compacted = (images left.files sound.reads).0;
  one_store = (images left.files sound.reads).1;
  images = images;
}

-- an image of a store that was opened
alike_in : (v : DiskView) → IsReady v → (J : Files) → IsImageNow v J → AllAlike v.files J
alike_in v ready J now = same_alike v.files J (λ m store. ready.stores_in J m now store) (λ m holds. ready.no_logs_in J now m holds ∙ sym (ready.no_logs m holds)) ready.fit

pub nothing : (v w : DiskView) (r : ℕ) (kind : CompactKind) (files : ℕ) → IsReady v → HasCounting v.files r files × (files < least_files kind) × OnlyWatches v w → IsNothing v.files r kind w files
nothing v w r kind files ready h = record {
  counting = h.0;
  few = h.1;
  same = h.2.1.files;
  images = λ J now. (let was = was_image h.2.0 v w h.2.1 J now in (ready.no_logs_in J was, alike_in v ready J was));
}

-- ---- the moments

-- a look leaves images of before
pub then_watched : (P : Files → Type 0) (u v w : DiskView) → During P u v → OnlyWatches v w → During P u w
then_watched P u v w over watches =
    (over.0 + watches.0, joined P over.0 watches.0 u v w over.1 (weaker (IsImageNow v) P watches.0 v w (λ J now. at_end P over.0 u v over.1 J now) watches.1.moments))

-- ---- no damage

-- a file that is fit and has a size has no damage
pub none_damaged : (files : Files) (name : Name) (at : ℕ) → IsFit files → ((bytes : List ℕ) → get files name ≡ Some bytes → length bytes < 2 ^ 64) → ¬ HasDamage files name at
none_damaged files name at fit small (Logged bytes there kind damaged) =
    let found = fit.logs name bytes kind there in
    let same : found.1.bytes ≡ bytes = same_bytes found.1.bytes bytes (sym found.1.there ∙ there) in
    damaged.no_text found.0 found.1.ended (subst (λ (b : List ℕ). IsLogText (key_of name) b found.0 found.1.ended) same found.1.text)
none_damaged files name at fit small (Stored bytes there kind damaged) =
    let found = fit.stores name bytes kind there (damaged_there name.region bytes at damaged) in
    let same : found.1.bytes ≡ bytes = same_bytes found.1.bytes bytes (sym found.1.there ∙ there) in
    not_damaged name.region bytes found.0 at (small bytes there) (subst (λ (b : List ℕ). IsStoreText name.region b found.0) same found.1.text) damaged
