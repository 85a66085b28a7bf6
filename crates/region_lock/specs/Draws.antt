-- What drawing a number for an edit does to what its handler keeps of the region: its own lines, and the numbers that it was told as spent.
use Rattle.std.specs.Prelude.{◌≡◌, ℕ, ◌-◌, ◌^◌, ◌<◌, List, [], ◌∷◌, ◌++◌}
use Rattle.region_model.specs.Lines.{Line}
use Rattle.region_lock.specs.declared.job.Job.{Job}
use Rattle.region_lock.specs.Jobs.{line_of}
use Rattle.region_lock.specs.Parts.{AreBelow}

-- the number was drawn for the job, by a pass that had seen this point
pub record DrewNumber (seen : ℕ) (job : Job) (n : ℕ) (own : List Line) (told : List ℕ) (own_after : List Line) (told_after : List ℕ) : Type 0 where
  -- the handler's last line is the new one
  pub listed : own_after ≡ own ++ line_of n job ∷ []
  pub told_same : told_after ≡ told
  pub above_seen : seen < n
  pub limit : n < 2 ^ 48
  pub above_own : AreBelow n own

-- none was drawn: the last one was drawn before, and the handler is told so
pub record SpentNumbers (last : ℕ) (own : List Line) (told : List ℕ) (own_after : List Line) (told_after : List ℕ) : Type 0 where
  pub own_same : own_after ≡ own
  pub told_last : told_after ≡ told ++ last ∷ []
  pub limit : last ≡ 2 ^ 48 - 1

-- none was drawn, and the handler is told nothing
pub record DrewNone (own : List Line) (told : List ℕ) (own_after : List Line) (told_after : List ℕ) : Type 0 where
  pub own_same : own_after ≡ own
  pub told_same : told_after ≡ told
