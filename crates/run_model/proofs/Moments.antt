-- At each moment of a run a crash leaves an image of the disk as found, or what fits each region's edits.
use Rattle.std.proofs.Common.{ℕ, ◌⊎◌, ◌<◌, ◌≤◌, List, Contains, arith, inl, inr}
use Rattle.std.proofs.lemmas.Bool.{cases_lt}
use Rattle.std.proofs.Math.Logic.{∥∥₁_map, ∥∥₁_elim, ∥∥₁_prop}
use Rattle.log_model.specs.Files.{Files}
use Rattle.log_model.specs.Recovered.{RecoversAlike}
use Rattle.recovery_laws.specs.Alike.{AllAlike}
use Rattle.region_model.specs.Journal.{Base, Edit, Follows}
use Rattle.region_model.specs.Crash.{Fits}
use Rattle.disk_images.specs.Crash.{DiskView, IsImageNow, Elapses, Throughout, Since}
use Rattle.run_model.specs.Closed.{ClosedAt, IsFound, FitsThroughout}
use Rattle.run_model.specs.Headline.{KeepsIn, MayKeep}
use Rattle.run_model.proofs.Choices.{each_in, each_up_to}
use Rattle.run_model.proofs.KeepsFound.{stands_keeps, alike_keeps}

-- Up to the moment at which the server was begun a crash leaves what an opening leaves, and from then on what fits each region's edits.
pub fits_throughout : (found now left : DiskView) (xs : List ClosedAt) → found.clock ≤ now.clock → now.clock ≤ left.clock
    → ((t : ℕ) (J : Files) → found.clock ≤ t → t ≤ now.clock → now.image t J → IsImageNow found J ⊎ AllAlike found.files J)
    → ((t : ℕ) (J : Files) → t ≤ now.clock → left.image t J → now.image t J)
    → ((x : ClosedAt) → Contains xs x → (t : ℕ) (J : Files) → now.clock ≤ t → t ≤ left.clock → left.image t J → ∥ ((m : ℕ) × Fits J x.region x.it.base x.it.edits m) ∥₁)
    → FitsThroughout found left xs
fits_throughout found now left xs first last opened past since = ∣ (
  now.clock,
  record {
    begun = (first, last);
    before = λ t J low high image. opened t J low high (past t J high image);
    since = λ t J low high image. each_in (λ (x : ClosedAt). (m : ℕ) × Fits J x.region x.it.base x.it.edits m) xs (λ x is. since x is t J low high image);
  },
) ∣₁

-- ---- what was found is kept at each moment

-- a region had this base and these edits, and at each moment since the start a crash leaves the base with a beginning of them
abbrev pub HasStood : Files → ℕ → ℕ → DiskView → Type 0
HasStood found start r left =
    (base : Base) × (edits : List Edit) × Follows base.last edits × IsFound found r base × Since start (λ J. ∥ ((m : ℕ) × Fits J r base edits m) ∥₁) left

abbrev Within : Files → Files → ℕ → Type 0
Within found J r = (base : Base) × (edits : List Edit) × (m : ℕ) × Follows base.last edits × Fits J r base edits m × IsFound found r base

pub keeps_since : (found : Files) (regions start : ℕ) (left : DiskView) → 1 ≤ regions
    → ((r : ℕ) → 1 ≤ r → r ≤ regions → ∥ HasStood found start r left ∥₁)
    → ((t : ℕ) (J : Files) (r : ℕ) → start ≤ t → t ≤ left.clock → left.image t J → regions < r → RecoversAlike found J r)
    → (t : ℕ) (J : Files) → start ≤ t → t ≤ left.clock → left.image t J → ∥ KeepsIn found J ∥₁
keeps_since found regions start left some each others t J low high image =
    ∥∥₁_map (each_up_to (Within found J) regions within) (λ all.
    stands_keeps found regions J record { fit = (all 1 (omega arith) some).4.fit; within = all; above = λ r above. others t J r low high image above })
  where
    within : (r : ℕ) → 1 ≤ r → r ≤ regions → ∥ Within found J r ∥₁
    within r first last = ∥∥₁_elim (each r first last) ∥∥₁_prop (λ x. ∥∥₁_map (x.4.each t J low high image) (λ fits. (x.0, x.1, fits.0, x.2, fits.1, x.3)))

-- the moments of an opening, and those from its end on
pub keeps_throughout : (found now left : DiskView) (n : ℕ) → Elapses n found now → now.clock ≤ left.clock
    → ((t : ℕ) (J : Files) → found.clock ≤ t → t ≤ now.clock → now.image t J → IsImageNow found J ⊎ AllAlike found.files J)
    → ((t : ℕ) (J : Files) → t ≤ now.clock → left.image t J → now.image t J)
    → ((t : ℕ) (J : Files) → t ≤ now.clock → now.image t J → left.image t J)
    → ((t : ℕ) (J : Files) → now.clock ≤ t → t ≤ left.clock → left.image t J → ∥ KeepsIn found.files J ∥₁)
    → (moments : ℕ) × Throughout (MayKeep found) moments found left
keeps_throughout found now left n time begun opened stays is_kept since = (
  left.clock,
  record {
    time = record {
      later = omega (arith, time.later, begun);
      by_most = omega arith;
      past = λ t J low image. time.past t J low (stays t J (omega (arith, low, time.later)) image);
      kept = λ t J low image. is_kept t J (omega (arith, low, time.later)) (time.kept t J low image);
    };
    each = each;
  },
)
  where
    each : (t : ℕ) (J : Files) → found.clock ≤ t → t ≤ left.clock → left.image t J → MayKeep found J
    each t J low high image = elim (cases_lt now.clock t) [
      | inl later ↦ ∥∥₁_map (since t J (omega (arith, later)) high image) (λ kept. inr kept)
      | inr early ↦ ∣ (elim (opened t J low (omega (arith, early)) (stays t J (omega (arith, early)) image)) as (λ _. IsImageNow found J ⊎ KeepsIn found.files J) [
        | inl was ↦ inl was
        | inr alike ↦ inr (alike_keeps found.files J alike)
      ]) ∣₁
    ]
