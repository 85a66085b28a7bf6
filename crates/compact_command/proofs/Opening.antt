-- An opening, and then a compaction.
use Rattle.std.proofs.Common.{◌≡◌, ℕ, ◌+◌, ◌<◌, ◌≤◌, List, [], ◌∷◌, length, inl, inr, Result, Ok, Err, subst, arith}
use Rattle.std.proofs.Math.Nat.{eq-or-lt_of_le}
use Rattle.std.specs.Prelude.{IfOk, IfErr}
use Rattle.log_model.specs.Files.{Files, IsSound}
use Rattle.log_model.specs.declared.damage.Damage.{Damage}
use Rattle.recovery_laws.specs.Alike.{AllAlike}
use Rattle.recovery_laws.specs.Kept.{HasNoLogs}
use Rattle.recovery_laws.proofs.Turns.{in_turn}
use Rattle.disk_images.specs.Crash.{DiskView, IsImageNow}
use Rattle.disk_images.proofs.Moments.{joined, weaker, at_end}
use Rattle.disk_images.proofs.Watching.{was_image}
use Rattle.found_files.specs.Watching.{OnlyWatches}
use Rattle.wal_split.specs.Moments.{During, WasOrAlike}
use Rattle.region_replay.specs.Opened.{AreStoresReplayed}
use Rattle.region_replay.specs.Ready.{Found}
use Rattle.region_replay.specs.Stored.{StoresReplayed}
use Rattle.store_compact.specs.declared.kind.CompactKind.{CompactKind}
use Rattle.store_compact.specs.Compacting.{WasOrCompacted}
use Rattle.command_base.specs.Status.{IfDamaged, IsDamageOf}
use Rattle.command_base.specs.declared.status.Status.{Status}
use Rattle.command_base.specs.declared.status.Status.TheVariants as ends
use Rattle.compact_command.specs.declared.compaction.Compaction.{Compaction}
use Rattle.compact_command.specs.Compacted.{CompactMayLeave, IsCompaction, HasCompacted}
use Rattle.compact_command.specs.Refusals.{IsOpeningRefusal}

-- ---- the moments

pub opening_leaves : (r : ℕ) (kind : CompactKind) (u v : DiskView) → During (WasOrAlike u) u v → During (CompactMayLeave r kind u) u v
opening_leaves r kind u v over = (over.0, weaker (WasOrAlike u) (CompactMayLeave r kind u) over.0 u v (λ J was. inl was) over.1)

module _ (r : ℕ) (kind : CompactKind) (u v w : DiskView) (alike : AllAlike u.files v.files) (no_logs : HasNoLogs v.files) where
  then_leaves : (J : Files) → WasOrCompacted v.files r kind J → CompactMayLeave r kind u J
  then_leaves J (inl was) = inl (inr (in_turn u.files v.files J alike was.1))
  then_leaves J (inr compacted) = inr (v.files, alike, no_logs, compacted)

  pub both_leave : During (WasOrAlike u) u v → During (WasOrCompacted v.files r kind) v w → During (CompactMayLeave r kind u) u w
  both_leave first second =
      let P = CompactMayLeave r kind u in
      let opening = opening_leaves r kind u v first in
      (opening.0 + second.0, joined P opening.0 second.0 u v w opening.1 (weaker (WasOrCompacted v.files r kind) P second.0 v w then_leaves second.1))

-- a disk that was only looked at has the images of before
pub still_opened : (u v w : DiskView) → During (WasOrAlike u) u v → OnlyWatches v w → (J : Files) → IsImageNow w J → WasOrAlike u J
still_opened u v w over watches J now = at_end (WasOrAlike u) over.0 u v over.1 J (was_image watches.0 v w watches.1 J now)

-- ---- what was done

pub has_compacted : (r : ℕ) (kind : CompactKind) (u v w : DiskView) (result : Result Compaction Status) → IsSound u.files → AllAlike u.files v.files → HasNoLogs v.files
    → (x : Found) × StoresReplayed u.files v.files r x → IfOk result (IsCompaction v.files r kind w) → IfOk result (HasCompacted r kind u w)
has_compacted r kind u v w (Ok compaction) sound alike no_logs stores done = record { sound = sound; opened = v.files; alike = alike; no_logs = no_logs; stores = stores; done = done }
has_compacted r kind u v w (Err status) sound alike no_logs stores done = tt

-- what an opening stored of one of the regions
pub stored_at : (old new : Files) (first r : ℕ) (xs : List Found) → AreStoresReplayed old new first xs → first ≤ r → r < first + length xs → (x : Found) × StoresReplayed old new r x
stored_at old new first r [] all low high = absurd (omega (arith, low, high))
stored_at old new first r (x ∷ xs) all low high = elim (eq-or-lt_of_le low) as (λ _. (y : Found) × StoresReplayed old new r y) [
  | inl is ↦ (x, subst (λ (q : ℕ). StoresReplayed old new q x) is all.0)
  | inr above ↦ stored_at old new (first + 1) r xs all.1 (omega (arith, above)) (omega (arith, high))
]

-- ---- no damage after an opening

none_told : (status : Status) (P : Damage → Type 0) (Q : Type 0) → IsDamageOf status (λ damage. ⊥) → IsDamageOf status P × IfDamaged status Q
none_told ends.Done P Q none = (tt, tt)
none_told ends.Memory P Q none = (tt, tt)
none_told ends.Usage P Q none = (tt, tt)
none_told (ends.Script line why) P Q none = (tt, tt)
none_told ends.SourceFault P Q none = (tt, tt)
none_told ends.DiskFault P Q none = (tt, tt)
none_told ends.SinkFault P Q none = (tt, tt)
none_told (ends.Damaged damage) P Q none = absurd none
none_told (ends.NumbersSpent region last) P Q none = (tt, tt)
none_told (ends.NotEmpty name) P Q none = (tt, tt)
none_told (ends.NoPosition file has) P Q none = (tt, tt)

pub no_damage_told : (result : Result Compaction Status) (P : Damage → Type 0) → IfErr result (λ status. IsDamageOf status (λ damage. ⊥)) → IfErr result (λ status. IsDamageOf status P)
no_damage_told (Ok compaction) P none = tt
no_damage_told (Err status) P none = (none_told status P (Unit {0}) none).0

pub no_damage_left : (result : Result Compaction Status) (Q : Type 0) → IfErr result (λ status. IsDamageOf status (λ damage. ⊥)) → IfErr result (λ status. IfDamaged status Q)
no_damage_left (Ok compaction) Q none = tt
no_damage_left (Err status) Q none = (none_told status (λ damage. ⊥) Q none).1

pub error_is : (s t : Status) → ◌≡◌ {A = Result Compaction Status} (Err s) (Err t) → s ≡ t
error_is s t e = cc e

pub if_ok : {A : Type 0} (result : Result A Status) (P : Type 0) → P → IfOk result (λ x. P)
if_ok (Ok x) P p = p
if_ok (Err status) P p = tt
