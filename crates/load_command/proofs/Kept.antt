-- What was found is kept where the store that a run left was opened again.
use Rattle.std.proofs.Common.{inl, inr}
use Rattle.std.proofs.Math.Logic.{∥∥₁_map}
use Rattle.log_model.specs.Files.{Files}
use Rattle.disk_images.specs.Crash.{DiskView, IsImageNow}
use Rattle.disk_images.proofs.Moments.{at_end}
use Rattle.recovery_laws.specs.Alike.{AllAlike}
use Rattle.run_command.specs.wal_split.Moments.{During, WasOrAlike}
use Rattle.run_model.specs.Headline.{AllKeep, KeepsFound, KeepsIn, MayKeep}
use Rattle.command_base.specs.Invocation.{AtEachMoment}
use Rattle.command_base.proofs.Endings.{each_then, no_moment}

alike_keeps : (found old new : Files) → KeepsIn found old → AllAlike old new → KeepsIn found new
alike_keeps found old new keeps alike = record {
  fit = (alike 0).fit;
  cells = λ r last low is v p below.
      let k = keeps.cells r last low is v p below in
      ((λ here. k.0 (((alike r).content v p).1 here)), (λ here. ((alike r).content v p).0 (k.1 here)));
}

-- so it is at each moment of the opening
pub opened_throughout : (before left after : DiskView) → AllKeep before.files left → IsImageNow left left.files → During (WasOrAlike left) left after → AtEachMoment (MayKeep before) left after
opened_throughout before left after keeps now over = each_then (WasOrAlike left) (MayKeep before) left after kept ∣ over ∣₁ where
  kept : (J : Files) → WasOrAlike left J → MayKeep before J
  kept J (inl was) = ∥∥₁_map (keeps J was) (λ k. inr k)
  kept J (inr alike) = ∥∥₁_map (keeps left.files now) (λ k. inr (alike_keeps before.files left.files J k alike))

-- a disk that nothing is done to
pub stays_kept : (before left : DiskView) → AllKeep before.files left → AtEachMoment (MayKeep before) left left
stays_kept before left keeps = no_moment (MayKeep before) left (λ J now. ∥∥₁_map (keeps J now) (λ k. inr k))

pub opened_keeps : (before left after : DiskView) → AllKeep before.files left → IsImageNow left left.files → During (WasOrAlike left) left after → KeepsFound before after
opened_keeps before left after keeps now over J image = elim (at_end (WasOrAlike left) over.0 left after over.1 J image) [
  | inl was ↦ ∥∥₁_map (keeps J was) (λ k. inr k)
  | inr alike ↦ ∥∥₁_map (keeps left.files now) (λ k. inr (alike_keeps before.files left.files J k alike))
]
