-- What the replay of one region leaves to that of the next.
use Rattle.std.proofs.Common.{◌≡◌, ◌≢◌, inl, inr, ℕ, List, ◌≤◌, ◌+◌, ◌^◌, Contains, sym, ap, ◌∙◌, subst, arith}
use Rattle.std.specs.Prelude.{Err}
use Rattle.log_model.specs.declared.damage.Damage.{Damage}
use Rattle.log_model.specs.declared.name.Name.{Name}
use Rattle.log_model.specs.Files.{Files, content, IsAbsent}
use Rattle.disk_images.specs.Crash.{DiskView}
use Rattle.disk_images.specs.Calls.{IsTrueDisk}
use Rattle.disk_images.proofs.Watching.{was_image}
use Rattle.found_files.specs.declared.refusal.SplitRefusal.{SplitRefusal}
use Rattle.found_files.specs.declared.refusal.SplitRefusal.TheVariants as refusals
use Rattle.found_files.specs.OfRegion.{AreNamesOf}
use Rattle.found_files.specs.Refusal.{IfDamage}
use Rattle.found_files.specs.Watching.{OnlyWatches}
use Rattle.wal_split.specs.Held.{IsHeld, IsSplit}
use Rattle.wal_split.proofs.Plans.{held_here}
use Rattle.region_replay.specs.declared.found.RegionFiles.{RegionFiles}
use Rattle.region_replay.specs.Names.{store_name}
use Rattle.region_replay.specs.Regions.{IsInOrder, IsFound}
use Rattle.region_replay.specs.Opened.{AtMostOneHigher}
use Rattle.region_replay.proofs.Cleaning.{held_on}
use Rattle.region_replay.proofs.Passing.{no_logs_on, given_on, no_new}

-- reading leaves it
pub split_watched : (u v : DiskView) → OnlyWatches u v → IsSplit u → IsSplit v
split_watched u v watches split = record {
  held = subst (λ (f : Files). IsHeld f v) (sym same) (held_on u.files u v split.held same watches.1.gone watches.1.formerly (was_image watches.0 u v watches.1));
  no_logs = λ m log. ap (λ (f : Files). content f m) same ∙ split.no_logs m log;
  small = λ m here. split.small m (λ none. here (ap (λ (f : Files). content f m) same ∙ none));
  given = λ m edits here. split.given m edits (λ none. here (ap (λ (f : Files). content f m) same ∙ none));
}
  where
    same : v.files ≡ u.files
    same = watches.1.files

pub still_split : (u w : DiskView) {told : Type 0} (x : RegionFiles) (order : IsInOrder told x) → IsTrueDisk w → IsSplit u → IsFound u.files x → IsHeld u.files w
    → ((m : Name) → m ≢ store_name x.region x.next_store → ((n : Name) → Contains x.edits.items n → m ≢ n) → content w.files m ≡ content u.files m) → ((m : Name) → Contains x.edits.items m → IsAbsent w.files m) → IsSplit w
still_split u w x order true_disk split found held others left = record {
  held = held_here u.files w true_disk held;
  no_logs = no_logs_on x order u.files w.files others split.no_logs;
  small = λ m here. elim (no_new x order u.files w.files others found left m here) as (λ _. m.number ≤ 2 ^ 63) [
    | inl was ↦ split.small m was
    | inr is ↦ (let low = order.next in let number : m.number ≡ x.next_store = ap (λ (k : Name). k.number) is in omega (arith, low, number))
  ];
  given = given_on x order u.files w.files others split.given;
}

-- the region's next store has a number of at most one above those of its stores
pub one_higher : (u w : DiskView) {told : Type 0} (x : RegionFiles) (order : IsInOrder told x) → IsFound u.files x
    → ((m : Name) → m ≢ store_name x.region x.next_store → ((n : Name) → Contains x.edits.items n → m ≢ n) → content w.files m ≡ content u.files m) → ((m : Name) → Contains x.edits.items m → IsAbsent w.files m) → AtMostOneHigher u.files w.files
one_higher u w x order found others left n bound m here = elim (no_new x order u.files w.files others found left m here) as (λ _. m.number ≤ n + 1) [
  | inl was ↦ (let low = bound m was in omega (arith, low))
  | inr is ↦ (let low = found.few n (λ k store region there. bound k there) in let number : m.number ≡ x.next_store = ap (λ (k : Name). k.number) is in omega (arith, low, number))
]

-- the same names of the same files
pub same_names : (told : Type 0) (f g : Files) (same : told → f ≡ g) (r : ℕ) (names : List Name) → AreNamesOf told f r names → AreNamesOf told g r names
same_names told f g same r names are = record {
  each = are.each;
  there = λ is_told m has none. are.there is_told m has (ap (λ (k : Files). content k m) (same is_told) ∙ none);
  all = λ is_told m of here. are.all is_told m of (λ none. here (sym (ap (λ (k : Files). content k m) (same is_told)) ∙ none));
  rise = are.rise;
}

-- what a refusal tells that was handed on
pub refused_too : (T U : Type 0) (P Q : Damage → Type 0) (e : SplitRefusal) → ((d : Damage) → P d → Q d) → IfDamage {T = T} (Err e) P → IfDamage {T = U} (Err e) Q
refused_too T U P Q (refusals.Damaged d) then told = then d told
refused_too T U P Q refusals.Memory then told = tt
refused_too T U P Q refusals.DiskFault then told = tt
