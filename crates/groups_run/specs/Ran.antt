-- Handlers of several servers before and after they have run.
use Rattle.std.specs.Prelude.{◌≡◌, ◌≢◌, ℕ, ◌≤◌, List, map, None}
use Rattle.group_calls.specs.region_lock.declared.naming.LockNaming.{Ghosts}
use Rattle.script_model.specs.Calls.{Script, asked, asked_by}
use Rattle.server_model.specs.Pass.{Pass as ThePass, Naming}
use Rattle.server_model.specs.Closing.{AllRun}
use Rattle.group_calls.specs.handler_threads.Working.{AreReady as AllReady, HaveWorked}
use Rattle.group_calls.specs.script_handlers.Handled.{IsReady as IsReadyFor, HasRun as HasRunFor}
use Rattle.group_calls.specs.script_handlers.declared.handler.Handler.{Handler}
use Rattle.groups_model.specs.Groups.{IsGroup}
use Rattle.groups_model.specs.Closed.{GroupHandled, all_replies, handled_on}
use Rattle.group_calls.specs.declared.groups.GroupPass.{GroupPass}
use Rattle.group_calls.specs.Passes.{known, IsGroupPassOf}
use Rattle.group_calls.specs.Servers.{Servers}
use Rattle.group_calls.specs.Serving.{GroupDoes, MayCallEach, most_calls}

-- each group has a server
pub record AllThere (s : Servers) : Type 0 where
  pub some : (1 ≤ s.count) × (s.count ≤ 4)
  pub second : 2 ≤ s.count → s.second ≢ None
  pub third : 3 ≤ s.count → s.third ≢ None
  pub fourth : 4 ≤ s.count → s.fourth ≢ None

module _ {N1 N2 N3 N4 : Type 0} {g1 : Ghosts N1} {g2 : Ghosts N2} {g3 : Ghosts N3} {g4 : Ghosts N4} where
  -- a handler that has made no call, with room for its replies
  abbrev pub IsReady : (ℕ → Naming) → Servers → Handler (GroupPass N1 N2 N3 N4 g1 g2 g3 g4) → Type 0
  IsReady names s h = IsReadyFor {S = Servers} {P = GroupPass N1 N2 N3 N4 g1 g2 g3 g4} {K = ℕ → ThePass}
      IsGroupPassOf known (λ k. (k 1).handler) most_calls (MayCallEach names) s h

  -- what it is once it has made its calls
  abbrev pub HasRun : (ℕ → Naming) → ℕ → Servers → (old new : Handler (GroupPass N1 N2 N3 N4 g1 g2 g3 g4)) → Type 0
  HasRun names time s old new = HasRunFor {S = Servers} {P = GroupPass N1 N2 N3 N4 g1 g2 g3 g4} {K = ℕ → ThePass}
      IsGroupPassOf known (λ k. (k 1).handler) most_calls (GroupDoes s.count names time) s old new

  abbrev pub AreReady : (ℕ → Naming) → Servers → List (Handler (GroupPass N1 N2 N3 N4 g1 g2 g3 g4)) → Type 0
  AreReady names s hs = AllReady (IsReady names) s hs

  abbrev pub HaveRun : (ℕ → Naming) → ℕ → Servers → (olds news : List (Handler (GroupPass N1 N2 N3 N4 g1 g2 g3 g4))) → Type 0
  HaveRun names time s olds news = HaveWorked (HasRun names time) s olds news

-- These handlers made the script's calls, and each group's server saw of them what is a run on it.
pub record AreHandled (groups : ℕ) (names : ℕ → Naming) (script : Script) (hs : List GroupHandled) : Type 0 where
  pub calls : map asked_by (all_replies hs) ≡ asked script
  pub runs : (k : ℕ) → IsGroup groups k → AllRun (names k) script.time (map (handled_on groups k) hs)
