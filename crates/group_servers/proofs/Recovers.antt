-- A store was recovered, or not.
use Rattle.std.proofs.Common.{◌≡◌, Err, IsTrue, refl}
use Rattle.disk_images.specs.declared.disk.Disk.{Ghosts}
use Rattle.disk_images.specs.Calls.{Rose}
use Rattle.found_files.specs.Refusal.{IfDamage}
use Rattle.found_files.specs.declared.refusal.SplitRefusal.{SplitRefusal}
use Rattle.found_files.specs.declared.refusal.SplitRefusal.TheVariants as splits
use Rattle.log_model.specs.Damage.{IsDamage}
use Rattle.log_model.specs.Files.{IsSound}
use Rattle.group_servers.specs.Refusals.{IsNotWrong, Tells, why_split}

module _ {D : Type 0} (g : Ghosts D) where
  pub tells_split : (T : Type 0) (e : SplitRefusal) (old new : D) → (e ≡ splits.DiskFault → Rose (g.faults old) (g.faults new))
      → (IsTrue g.told → IfDamage {T = T} (Err e) (λ damage. ¬ IsSound (g.view old).files))
      → (IsTrue g.told → IfDamage {T = T} (Err e) (λ damage. IsDamage (g.view old).files damage × ((g.view new).files ≡ (g.view old).files)))
      → Tells g (why_split e) old new
  tells_split T splits.Memory old new rose unsound damaged = tt
  tells_split T splits.DiskFault old new rose unsound damaged = rose refl
  tells_split T (splits.Damaged damage) old new rose unsound damaged =
      λ told. record { unsound = unsound told; damaged = (damaged told).0; same = (damaged told).1 }

pub never_wrong : (e : SplitRefusal) → IsNotWrong (why_split e)
never_wrong splits.Memory region is = absurd (cc is)
never_wrong splits.DiskFault region is = absurd (cc is)
never_wrong (splits.Damaged damage) region is = absurd (cc is)
