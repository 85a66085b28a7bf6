-- What was read of a region, and what is to replace it.
use Rattle.std.proofs.Common.{◌≡◌, inl, ℕ, ◌+◌, ◌≤◌, List, Contains, refl, sym, ap, ◌∙◌, subst, arith}
use Rattle.log_model.specs.declared.name.Name.{Name}
use Rattle.log_model.specs.declared.damage.Damage.TheVariants as damages
use Rattle.log_model.specs.Files.{Files, IsFit}
use Rattle.recovery_laws.specs.Kept.{HasNoLogs}
use Rattle.disk_images.specs.Crash.{DiskView, IsImageNow}
use Rattle.disk_images.proofs.Moments.{joined, weaker}
use Rattle.found_files.specs.declared.found.FoundEntry.{FoundEntry}
use Rattle.found_files.specs.declared.found.FoundStore.{FoundStore}
use Rattle.found_files.specs.Found.{AreContents}
use Rattle.found_files.specs.OfRegion.{AreNamesOf, IsDamageIn}
use Rattle.found_files.specs.Counting.{AreCounting}
use Rattle.found_files.specs.Watching.{OnlyWatches}
use Rattle.found_files.proofs.Replaced.{counting_of}
use Rattle.region_replay.specs.Names.{store_name}
use Rattle.wal_split.specs.Moments.{During}
use Rattle.store_compact.specs.declared.kind.CompactKind.{CompactKind}
use Rattle.store_compact.specs.declared.kind.CompactKind.TheVariants as compacts
use Rattle.store_compact.specs.Compacting.{least_files, WasOrCompacted}
use Rattle.store_compact.specs.Ready.{IsAtRest}
use Rattle.store_compact.specs.Plan.{IsAbove, AreToReplace}
use Rattle.store_compact.proofs.Moments.{was}

pub least_given : (kind : CompactKind) → 1 ≤ least_files kind
least_given compacts.Minor = omega arith
least_given compacts.Major = omega arith

module _ (told : Type 0) (files : Files) (r : ℕ) (names : List Name) (es : List FoundEntry) (every : List FoundStore) (are : AreNamesOf told files r names) (read : AreContents told files names es every) where
  pub low_regions : r ≤ 64 → (x : FoundStore) → Contains every x → x.name.region ≤ 64
  low_regions low x has =
      let e = (read.each x has).1 in
      let region : x.name.region ≡ r = ap (λ (m : Name). m.region) e.2 ∙ (are.each e.0 e.1).0 in
      omega (arith, low, region)

  pub to_replace : (ss : List FoundStore) (number : ℕ) → AreCounting every ss → IsAbove names number → AreToReplace told files (store_name r number) names ss
  to_replace ss number counting next = record {
    kind = refl;
    of = λ m has. (are.each m has).0;
    there = are.there;
    every = λ is_told m store region present. are.all is_told m (region, inl store) present;
    rise = are.rise;
    number = next;
    each = λ x has. (
        let f = read.each x (counting.each x has).0 in
        (f.0, ap (λ (m : Name). m.kind) f.1.2 ∙ f.1.3, ap (λ (m : Name). m.region) f.1.2 ∙ (are.each f.1.0 f.1.1).0));
    counting = λ is_told. counting_of told is_told files names es every ss read counting r (λ m store region present. are.all is_told m (region, inl store) present);
    in_order = λ is_told. counting.rising (read.rising is_told);
  }

-- reading leaves images of before
pub watched_moments : (u v : DiskView) → OnlyWatches u v → IsAtRest u → IsFit u.files → (r : ℕ) (kind : CompactKind) → During (WasOrCompacted u.files r kind) u v
watched_moments u v watches rest fit r kind = (watches.0, weaker (IsImageNow u) (WasOrCompacted u.files r kind) watches.0 u v (λ J now. was u rest fit J now r kind) watches.1.moments)

pub then_moments : (u v w : DiskView) → OnlyWatches u v → IsAtRest u → IsFit u.files → (r : ℕ) (kind : CompactKind) → During (WasOrCompacted v.files r kind) v w → During (WasOrCompacted u.files r kind) u w
then_moments u v w watches rest fit r kind second =
    let first = watched_moments u v watches rest fit r kind in
    let over : During (WasOrCompacted u.files r kind) v w = subst (λ (f : Files). During (WasOrCompacted f r kind) v w) watches.1.files second in
    (first.0 + over.0, joined (WasOrCompacted u.files r kind) first.0 over.0 u v w first.1 over.1)

-- where there is no edits file, no two disagree
pub no_disagreement : (files : Files) (r : ℕ) → HasNoLogs files → (a b : Name) (region number : ℕ) → IsDamageIn files r (damages.Two a b region number) → ⊥
no_disagreement files r none a b region number is =
    let in_first = is.here.in_first.0 in
    absurd (cc (sym (none a in_first.kind) ∙ in_first.there))
