-- The images of the moments up to a start stay from call to call.
use Rattle.std.proofs.Common.{◌≡◌, ℕ, ◌≤◌, arith}
use Rattle.log_model.specs.Files.{Files}
use Rattle.disk_images.specs.Crash.{DiskView, Elapses}
use Rattle.log_halves.specs.Moments.{GoesOnFrom}

module _ (start : ℕ) (past : ℕ → Files → Type 0) where
  pub goes_on_first : (v : DiskView) → start ≡ v.clock → ((t : ℕ) (J : Files) → t ≤ start → (v.image t J → past t J) × (past t J → v.image t J)) → GoesOnFrom start past v
  goes_on_first v now same = record {
    begun = omega (arith, now);
    past_stays = λ t J low there. (same t J low).0 there;
    past_is_kept = λ t J low was. (same t J low).1 was;
  }

  pub goes_on_by : (n : ℕ) (v w : DiskView) → Elapses n v w → GoesOnFrom start past v → GoesOnFrom start past w
  goes_on_by n v w time so_far = record {
    begun = omega (arith, so_far.begun, time.later);
    past_stays = λ t J low there. so_far.past_stays t J low (time.past t J (omega (arith, low, so_far.begun)) there);
    past_is_kept = λ t J low was. time.kept t J (omega (arith, low, so_far.begun)) (so_far.past_is_kept t J low was);
  }
