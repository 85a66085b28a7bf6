-- The moments of a run: those of the opening, and those from the start of the server on.
use Rattle.std.proofs.Common.{◌≡◌, ℕ, ◌⊎◌, ◌≤◌, Bool, List, map, Contains, sym, subst, arith, inl, inr}
use Rattle.std.proofs.Math.Logic.{∥∥₁_map, ∥∥₁_elim, ∥∥₁_prop}
use Rattle.log_model.specs.Files.{Files}
use Rattle.disk_images.specs.Crash.{DiskView, IsImageNow}
use Rattle.script_handlers.specs.wal_split.Moments.{During, WasOrAlike}
use Rattle.script_model.specs.Calls.{Script}
use Rattle.server_model.specs.Pass.{Naming, Pass}
use Rattle.server_model.specs.Closing.{Handled}
use Rattle.script_handlers.specs.log_service.Moments.{GoesOnFrom}
use Rattle.script_handlers.specs.region_calls.Closes.{HasElapsed, HasSurvived, IsLeft}
use Rattle.script_handlers.specs.region_calls.Wordings.{region_of}
use Rattle.script_handlers.specs.region_calls.declared.closed.ClosedRegion.{ClosedRegion}
use Rattle.run_model.specs.Closed.{ClosedAt, Closed, IsFound, FitsThroughout}
use Rattle.run_model.specs.Headline.{KeepsIn, KeepsThroughout}
use Rattle.run_model.proofs.FromClose.{base_at, region_there}
use Rattle.run_model.proofs.KeepsFound.{alike_keeps}
use Rattle.run_model.proofs.Lists.{mapped}
use Rattle.run_model.proofs.Moments.{HasStood, fits_throughout, keeps_since, keeps_throughout}
use Rattle.script_run.specs.Ends.{closed_at}

-- what an opening goes through
pub opened_throughout : (found now : DiskView) → During (WasOrAlike found) found now → KeepsThroughout found now
opened_throughout found now during = ∣ (
  during.0,
  record {
    time = during.1.time;
    each = λ t J low high image. ∣ (elim (during.1.each t J low high image) as (λ _. IsImageNow found J ⊎ KeepsIn found.files J) [
      | inl was ↦ inl was
      | inr alike ↦ inr (alike_keeps found.files J alike)
    ]) ∣₁;
  },
) ∣₁

-- a server was begun on the disk as an opening left it
module _ (found now left : DiskView) (start : ℕ) (past : ℕ → Files → Type 0) (is : start ≡ now.clock)
    (pasts : (t : ℕ) (J : Files) → t ≤ start → (now.image t J → past t J) × (past t J → now.image t J)) (during : During (WasOrAlike found) found now) where
  stays : GoesOnFrom start past left → (t : ℕ) (J : Files) → t ≤ now.clock → left.image t J → now.image t J
  stays goes t J low image = (pasts t J (omega (arith, is, low))).1 (goes.past_stays t J (omega (arith, is, low)) image)

  is_kept : GoesOnFrom start past left → (t : ℕ) (J : Files) → t ≤ now.clock → now.image t J → left.image t J
  is_kept goes t J low image = goes.past_is_kept t J (omega (arith, is, low)) ((pasts t J (omega (arith, is, low))).0 image)

  -- what was found is kept at each moment
  pub moments : (regions : ℕ) → 1 ≤ regions → ∥ HasElapsed start past found.files regions left ∥₁ → ((r : ℕ) → 1 ≤ r → r ≤ regions → ∥ HasStood found.files start r left ∥₁)
      → KeepsThroughout found left
  moments regions some elapsed each = ∥∥₁_map elapsed (λ e.
      keeps_throughout found now left during.0 during.1.time (omega (arith, is, e.goes_on.begun)) during.1.each (stays e.goes_on) (is_kept e.goes_on)
      (λ t J low high image. keeps_since found.files regions start left some each e.others t J (omega (arith, is, low)) high image))

  module _ {script : Script} {name : Naming} {hs : List Handled} (cs : List ClosedRegion) {broken : Bool} (c : Closed script found.files left name hs (map closed_at cs) broken)
      (survived : (x : ClosedRegion) → Contains cs x → ∥ HasSurvived start left x.region (region_of x) ∥₁) where
    stood : (x : ClosedAt) → Contains (map closed_at cs) x → ∥ HasStood found.files start x.region left ∥₁
    stood x there =
        let m = mapped closed_at cs x there in
        let since : ∥ HasSurvived start left x.region x.it ∥₁ = subst (λ (y : ClosedAt). ∥ HasSurvived start left y.region y.it ∥₁) m.2 (survived m.0 m.1) in
        ∥∥₁_map since (λ s. (x.it.base, x.it.edits, (c.regions x there).journal.numbers, base_at c x there, s))

    -- of a server that is closed
    pub closed_moments : ∥ HasElapsed start past found.files script.regions left ∥₁ → KeepsThroughout found left
    closed_moments elapsed = moments script.regions c.script_right.some_region elapsed (λ r low high.
        let x = region_there c r low high in subst (λ (k : ℕ). ∥ HasStood found.files start k left ∥₁) x.2 (stood x.0 x.1))

    pub closed_throughout : ∥ HasElapsed start past found.files script.regions left ∥₁ → FitsThroughout found left (map closed_at cs)
    closed_throughout elapsed = ∥∥₁_elim elapsed ∥∥₁_prop (λ e.
        fits_throughout found now left (map closed_at cs) during.1.time.later (omega (arith, is, e.goes_on.begun)) during.1.each (stays e.goes_on)
        (λ x there u K low high image.
        let m = mapped closed_at cs x there in
        ∥∥₁_elim (subst (λ (y : ClosedAt). ∥ HasSurvived start left y.region y.it ∥₁) m.2 (survived m.0 m.1)) ∥∥₁_prop (λ s. s.each u K (omega (arith, is, low)) high image)))

  -- of one that could not be closed
  pub left_moments : (name : Naming) (passes : List Pass) (regions : ℕ) → 1 ≤ regions → name.regions ≡ regions → ((r : ℕ) → 1 ≤ r → r ≤ regions → IsFound found.files r (name.bases r))
      → ∥ HasElapsed start past found.files regions left ∥₁ → IsLeft name passes start left → KeepsThroughout found left
  left_moments name passes regions some same bases elapsed each = moments regions some elapsed (λ r low high.
      ∥∥₁_map (each r low (omega (arith, same, high))) (λ x. (x.0.base, x.0.edits, x.1.journal.numbers, subst (IsFound found.files r) (sym x.1.base) (bases r low high), x.3)))
