-- The moments of a run: those of the opening, and those from the start of the server on.
use Rattle.std.proofs.Common.{◌≡◌, ℕ, ◌⊎◌, ◌≤◌, true, List, map, Contains, sym, subst, arith, inl, inr}
use Rattle.std.specs.List.{range_with_len}
use Rattle.std.proofs.Math.Logic.{∥∥₁_map, ∥∥₁_elim, ∥∥₁_prop}
use Rattle.log_model.specs.Files.{Files}
use Rattle.disk_images.specs.Crash.{DiskView, IsImageNow}
use Rattle.embedded.specs.wal_split.Moments.{During, WasOrAlike}
use Rattle.region_model.specs.Crash.{Fits}
use Rattle.server_model.specs.Pass.{Naming, Pass}
use Rattle.server_model.specs.Closing.{Region, IsClosedRegion, Survives}
use Rattle.embedded.specs.log_service.Moments.{GoesOnFrom}
use Rattle.embedded.specs.region_calls.Closes.{HasElapsed, HasSurvived, IsLeft}
use Rattle.embedded.specs.region_calls.Wordings.{region_of}
use Rattle.embedded.specs.region_calls.declared.closed.ClosedRegion.{ClosedRegion}
use Rattle.run_model.specs.Closed.{ClosedAt, IsFound, FitsFrom}
use Rattle.run_model.specs.Headline.{KeepsIn, KeepsThroughout}
use Rattle.run_model.proofs.KeepsFound.{alike_keeps}
use Rattle.run_model.proofs.Lists.{mapped, map_contains, range_has}
use Rattle.run_model.proofs.Moments.{HasStood, fits_throughout, keeps_since, keeps_throughout}
use Rattle.embedded_run.specs.Ends.{FitsSince}

abbrev closed_at : ClosedRegion → ClosedAt
closed_at c = record { region = c.region; it = region_of c }

-- what an opening goes through
pub opened_throughout : (found now : DiskView) → During (WasOrAlike found) found now → KeepsThroughout found now
opened_throughout found now during = ∣ (
  during.0,
  record {
    time = during.1.time;
    each = λ t J low high image. ∣ (elim (during.1.each t J low high image) as (λ _. IsImageNow found J ⊎ KeepsIn found.files J) [
      | inl was ↦ inl was
      | inr alike ↦ inr (alike_keeps found.files J alike)
    ]) ∣₁;
  },
) ∣₁

-- a server was begun on the disk as an opening left it
module _ (found now left : DiskView) (start : ℕ) (past : ℕ → Files → Type 0) (is : start ≡ now.clock)
    (pasts : (t : ℕ) (J : Files) → t ≤ start → (now.image t J → past t J) × (past t J → now.image t J)) (during : During (WasOrAlike found) found now) where
  stays : GoesOnFrom start past left → (t : ℕ) (J : Files) → t ≤ now.clock → left.image t J → now.image t J
  stays goes t J low image = (pasts t J (omega (arith, is, low))).1 (goes.past_stays t J (omega (arith, is, low)) image)

  is_kept : GoesOnFrom start past left → (t : ℕ) (J : Files) → t ≤ now.clock → now.image t J → left.image t J
  is_kept goes t J low image = goes.past_is_kept t J (omega (arith, is, low)) ((pasts t J (omega (arith, is, low))).0 image)

  -- what was found is kept at each moment
  moments : (regions : ℕ) → 1 ≤ regions → ∥ HasElapsed start past found.files regions left ∥₁ → ((r : ℕ) → 1 ≤ r → r ≤ regions → ∥ HasStood found.files start r left ∥₁)
      → KeepsThroughout found left
  moments regions some elapsed each = ∥∥₁_map elapsed (λ e.
      keeps_throughout found now left during.0 during.1.time (omega (arith, is, e.goes_on.begun)) during.1.each (stays e.goes_on) (is_kept e.goes_on)
      (λ t J low high image. keeps_since found.files regions start left some each e.others t J (omega (arith, is, low)) high image))

  -- of a server that is closed
  module _ (name : Naming) (passes : List Pass) (cs : List ClosedRegion) (some : 1 ≤ name.regions) (numbers : map (λ (x : ClosedRegion). x.region) cs ≡ range_with_len 1 name.regions)
      (journals : (x : ClosedRegion) → Contains cs x → IsClosedRegion name x.region passes (region_of x))
      (survived : (x : ClosedRegion) → Contains cs x → ∥ HasSurvived start left x.region (region_of x) ∥₁)
      (elapsed : ∥ HasElapsed start past found.files name.regions left ∥₁) where
    pub closed_moments : ((r : ℕ) → 1 ≤ r → r ≤ name.regions → IsFound found.files r (name.bases r)) → KeepsThroughout found left
    closed_moments bases = moments name.regions some elapsed stood
      where
        stood : (r : ℕ) → 1 ≤ r → r ≤ name.regions → ∥ HasStood found.files start r left ∥₁
        stood r low high =
            let m = mapped (λ (x : ClosedRegion). x.region) cs r (subst (λ l. Contains l r) (sym numbers) (range_has name.regions 1 r low (omega (arith, high)))) in
            let x = journals m.0 m.1 in
            let base : IsFound found.files m.0.region m.0.base = subst (IsFound found.files m.0.region) (sym x.base) (bases m.0.region (omega (arith, m.2, low)) (omega (arith, m.2, high))) in
            subst (λ (k : ℕ). ∥ HasStood found.files start k left ∥₁) m.2 (∥∥₁_map (survived m.0 m.1) (λ s. (m.0.base, (region_of m.0).edits, x.journal.numbers, base, s)))

    pub closed_since : FitsSince found left cs
    closed_since = ∥∥₁_elim elapsed ∥∥₁_prop (λ e.
        ∥∥₁_map (fits_throughout found now left (map closed_at cs) during.1.time.later (omega (arith, is, e.goes_on.begun)) during.1.each (stays e.goes_on) each)
        (λ f. (f.0, of_all f.0 f.1)))
      where
        each : (x : ClosedAt) → Contains (map closed_at cs) x → (t : ℕ) (J : Files) → now.clock ≤ t → t ≤ left.clock → left.image t J → ∥ ((m : ℕ) × Fits J x.region x.it.base x.it.edits m) ∥₁
        each x there t J low high image =
            let m = mapped closed_at cs x there in
            ∥∥₁_elim (subst (λ (y : ClosedAt). ∥ HasSurvived start left y.region y.it ∥₁) m.2 (survived m.0 m.1)) ∥∥₁_prop (λ s. s.each t J (omega (arith, is, low)) high image)

        of_all : (from : ℕ) → FitsFrom found left from (λ J. (x : ClosedAt) → Contains (map closed_at cs) x → (m : ℕ) × Fits J x.region x.it.base x.it.edits m)
            → FitsFrom found left from (λ J. (x : ClosedRegion) → Contains cs x → (m : ℕ) × Fits J x.region x.base (region_of x).edits m)
        of_all from f = record {
          begun = f.begun;
          before = f.before;
          since = λ t J low high image. ∥∥₁_map (f.since t J low high image) (λ fits x there. fits (closed_at x) (map_contains closed_at cs x there));
        }

  -- of one that could not be closed
  pub left_moments : (name : Naming) (passes : List Pass) → 1 ≤ name.regions → ((r : ℕ) → 1 ≤ r → r ≤ name.regions → IsFound found.files r (name.bases r))
      → ∥ HasElapsed start past found.files name.regions left ∥₁ → IsLeft name passes start left → KeepsThroughout found left
  left_moments name passes some bases elapsed each = moments name.regions some elapsed (λ r low high.
      ∥∥₁_map (each r low high) (λ x. (x.0.base, x.0.edits, x.1.journal.numbers, subst (IsFound found.files r) (sym x.1.base) (bases r low high), x.3)))

-- each region's journal is kept, which isn't handed on
pub kept_open : (name : Naming) (passes : List Pass) (start : ℕ) (left : DiskView) → IsLeft name passes start left
    → (r : ℕ) → 1 ≤ r → r ≤ name.regions → ∥ ((x : Region) × IsClosedRegion name r passes x × Survives left true r x) ∥₁
kept_open name passes start left each r low high = ∥∥₁_map (each r low high) (λ x. (x.0, x.1, x.2))
