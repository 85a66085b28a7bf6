-- A handler's calls on several servers, and what each group's server saw of them.
use Rattle.std.proofs.Common.{◌≡◌, ℕ, List, [], ◌∷◌, ap}
use Rattle.region_model.specs.Calls.{Reply}
use Rattle.server_model.specs.Pass.{Pass, Naming}
use Rattle.server_model.specs.Steps.{Runs}
use Rattle.groups_model.specs.Groups.{IsGroup, replies_on, GroupRuns}
use Rattle.groups_model.proofs.Projected.{projected}
use Rattle.group_calls.specs.script_handlers.Handled.{RunsBy}
use Rattle.group_calls.specs.Serving.{GroupDoes}

-- the passes of all groups are this handler's
abbrev pub AreOf : ℕ → ℕ → (ℕ → Pass) → Type 0
AreOf groups h passes = (k : ℕ) → IsGroup groups k → (passes k).handler ≡ h

module _ (groups : ℕ) (names : ℕ → Naming) (time : ℕ) where
  group_runs : (first : ℕ → Pass) (replies : List Reply) (last : ℕ → Pass) → RunsBy (λ (k : ℕ → Pass). (k 1).handler) (GroupDoes groups names time) first replies last
      → GroupRuns groups names time first replies last
  group_runs first [] last run = λ k. ap (λ (f : ℕ → Pass). f k) run
  group_runs first (y ∷ ys) last run = (run.0, run.1.made, group_runs run.0 ys last run.2)

  -- each group's server saw a run of the calls on it
  pub each_runs : (first : ℕ → Pass) (replies : List Reply) (last : ℕ → Pass) → RunsBy (λ (k : ℕ → Pass). (k 1).handler) (GroupDoes groups names time) first replies last
      → (k : ℕ) → Runs (names k) time (first k) (replies_on groups k replies) (last k)
  each_runs first replies last run k = projected groups names time first last replies (group_runs first replies last run) k
