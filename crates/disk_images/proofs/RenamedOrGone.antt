-- What renaming or removing a durable file may leave.
use Rattle.std.proofs.Common.{◌≡◌, inl, inr, ℕ, List, Result, refl, ap, ◌∙◌, subst}
use Rattle.log_model.specs.declared.name.Name.{Name}
use Rattle.log_model.specs.Files.{Files, content, IsAbsent}
use Rattle.disk_images.specs.Crash.{DiskView, IsImageNow, OnlyAt, Throughout}
use Rattle.disk_images.specs.OneFile.{IsDurableFile}
use Rattle.disk_images.specs.Moved.{HasEitherName, IsWholeOrGone}
use Rattle.disk_images.specs.Calls.{Renames, Removes, MovedIn, IsTrueDisk}
use Rattle.disk_images.proofs.Moments.{in_one_call}

module _ {T E : Type 0} {result : Result T E} (from to : Name) (bytes : List ℕ) (u v : DiskView) (sound : IsTrueDisk u) (file : IsDurableFile u from bytes) (absent : IsAbsent u.files to) (not_gone : ¬ u.gone to)
    (renames : Renames from to result u v) where
  not_there : (J : Files) → IsImageNow u J → IsAbsent J to
  not_there J now = sound.absent to absent not_gone J now

  -- nothing happened
  stays_in : (I J : Files) → IsImageNow u I → ((m : Name) → content J m ≡ content I m) → HasEitherName from to bytes u J
  stays_in I J was same = record {
    base = I;
    was = was;
    had = file.durable I was;
    free = not_there I was;
    elsewhere = λ m far off. same m;
    here = inl (same from ∙ file.durable I was, same to ∙ not_there I was);
  }

  its_name : (I J : Files) (moved : MovedIn from to (u.formerly from) I J) → moved.name ≡ from
  its_name I J moved = elim moved.borne as (λ _. moved.name ≡ from) [
    | inl is ↦ is
    | inr former ↦ absurd (file.unmoved moved.name former)
  ]

  -- it moved
  moves_in : (I J : Files) → IsImageNow u I → MovedIn from to (u.formerly from) I J → HasEitherName from to bytes u J
  moves_in I J was moved =
      let is : moved.name ≡ from = its_name I J moved in record {
        base = I;
        was = was;
        had = file.durable I was;
        free = not_there I was;
        elsewhere = λ m far off. moved.elsewhere m (λ at. far (at ∙ is)) off;
        here = inr (subst (λ (n : Name). IsAbsent J n) is moved.left, moved.there ∙ (ap (λ (n : Name). content I n) is ∙ file.durable I was));
      }

  image_after : (J : Files) → IsImageNow v J → HasEitherName from to bytes u J
  image_after J now =
      let step = renames.crash J now in
      elim step.2 as (λ _. HasEitherName from to bytes u J) [
        | inl same ↦ stays_in step.0 J step.1 same
        | inr moved ↦ moves_in step.0 J step.1 moved
      ]

  pub renaming : Throughout (HasEitherName from to bytes u) 1 u v
  renaming = in_one_call (HasEitherName from to bytes u) u v (λ J now. stays_in J J now (λ m. refl)) renames.time image_after

module _ {T E : Type 0} {result : Result T E} (name : Name) (bytes : List ℕ) (u v : DiskView) (file : IsDurableFile u name bytes) (removes : Removes name result u v) where
  whole_in : (I J : Files) → IsImageNow u I → ((m : Name) → content J m ≡ content I m) → OnlyAt name (IsWholeOrGone bytes) u J
  whole_in I J was same = record { base = I; was = was; elsewhere = λ m other. same m; here = inl (same name ∙ file.durable I was) }

  gone_after : (J : Files) → IsImageNow v J → OnlyAt name (IsWholeOrGone bytes) u J
  gone_after J now =
      let step = removes.crash J now in
      elim step.2 as (λ _. OnlyAt name (IsWholeOrGone bytes) u J) [
        | inl same ↦ whole_in step.0 J step.1 same
        | inr removed ↦ record { base = step.0; was = step.1; elsewhere = λ m other. removed.elsewhere m other (file.unmoved m); here = inr removed.here }
      ]

  pub removing : Throughout (OnlyAt name (IsWholeOrGone bytes) u) 1 u v
  removing = in_one_call (OnlyAt name (IsWholeOrGone bytes) u) u v (λ J now. whole_in J J now (λ m. refl)) removes.time gone_after
