-- What came of a try to begin an edit.
use Rattle.std.specs.Prelude.{ℕ, List}
use Rattle.region_model.specs.Lines.{Line}
use Rattle.log_service.specs.declared.tally.Watch.{Watch}
use Rattle.log_service.specs.Tallies.{found_full}
use Rattle.region_lock.specs.declared.job.Job.{Job}
use Rattle.region_lock.specs.declared.editing.Tried.{Tried}
use Rattle.region_lock.specs.declared.editing.Tried.TheVariants as tries
use Rattle.region_lock.specs.Jobs.{IsJobBack}
use Rattle.region_lock.specs.Draws.{DrewNumber, SpentNumbers, DrewNone}

-- by what it does to the handler's own lines, and to the numbers that it was told as spent
abbrev pub IsTried : ℕ → ℕ → Job → List Line → List ℕ → Tried → List Line → List ℕ → Type 0
IsTried region seen job own told (tries.Begun n) own_after told_after = DrewNumber seen job n own told own_after told_after
IsTried region seen job own told (tries.Spent last) own_after told_after = SpentNumbers last own told own_after told_after
IsTried region seen job own told tries.Memory own_after told_after = DrewNone own told own_after told_after
IsTried region seen job own told (tries.Again back) own_after told_after = DrewNone own told own_after told_after × IsJobBack region job back

-- where the job comes back the ring was found full once more, and else not
abbrev pub counted_by : Tried → Watch → Watch
counted_by (tries.Begun n) watch = watch
counted_by (tries.Spent last) watch = watch
counted_by tries.Memory watch = watch
counted_by (tries.Again back) watch = found_full watch
