-- An edit that is ready to be begun.
use Rattle.std.specs.Prelude.{◌≡◌, ℕ, ◌+◌, []}
use Rattle.std.specs.declared.result.Result.{Result}
use Rattle.std.specs.declared.result.Result.TheVariants.{Ok, Err}
use Rattle.std.specs.Arc.{arc_value}
use Rattle.hand_register.specs.declared.known.Record.{Record}
use Rattle.hand_register.specs.Desks.{with_value}
use Rattle.log_model.specs.Entry.{Entry}
use Rattle.log_trucks.specs.Held.{Carries}
use Rattle.region_model.specs.Lines.{Line, pending}
use Rattle.region_state.specs.States.{write_point}
use Rattle.mem_segments.specs.Draft.{IsDraftOf}
use Rattle.region_lock.specs.Parts.{Part, with_lines, AreBelow}
use Rattle.std.specs.Prelude.{◌++◌, ◌∷◌}
use Rattle.region_lock.specs.declared.job.Job.{Job}

-- its entry under this number
abbrev pub entry_under : ℕ → ℕ → Job → Entry
entry_under r n j = record { region = r; number = n; time = j.time; batch = arc_value j.batch }

-- its line under this number
abbrev pub line_of : ℕ → Job → Line
line_of n j = pending n j.caller j.time (arc_value j.batch)

-- the truck has the edit's entry under some number, with the families of its cells, and the draft is of its cells
pub record IsJob (r : ℕ) (j : Job) : Type 0 where
  pub number : ℕ
  pub carries : Carries j.truck.value (entry_under r number j)
  pub alone : j.truck.value.behind ≡ []
  pub draft : IsDraftOf j.draft (arc_value j.batch).cells

-- the job is as it was, but for the number that its truck spells
abbrev pub IsJobBack : ℕ → Job → Job → Type 0
IsJobBack r job back = IsJob r back × (line_of 0 back ≡ line_of 0 job)

-- The next number was drawn, its line is the last of the journal and of the hand's list, and all others of the hand are below it. Or
-- nothing changed, and the job came back.
abbrev pub IsBegun : Job → Part → Record Line → Result ℕ Job → Part → Record Line → Type 0
IsBegun job old mine (Ok n) new mine' =
    (n ≡ write_point old.state + 1) × (new ≡ with_lines old (old.state.lines ++ line_of n job ∷ []) new.state.room)
    × (mine' ≡ with_value mine (line_of n job)) × AreBelow n mine.list
IsBegun job old mine (Err back) new mine' = (new ≡ old) × (mine' ≡ mine) × IsJobBack old.state.region job back
