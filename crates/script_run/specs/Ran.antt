-- Handlers of one server before and after they have run.
use Rattle.std.specs.Prelude.{ℕ, List, [], ◌∷◌, Option}
use Rattle.script_model.specs.Report.{ReplyLine as TheLine}
use Rattle.server_model.specs.Pass.{Pass as ThePass, Naming}
use Rattle.server_model.specs.Steps.{Does}
use Rattle.run_model.specs.declared.spent.Spent.{Spent}
use Rattle.script_handlers.specs.log_service.Places.{ServiceId}
use Rattle.script_handlers.specs.region_lock.declared.naming.LockNaming.{Ghosts}
use Rattle.script_handlers.specs.region_calls.declared.pass.Pass.{Pass}
use Rattle.script_handlers.specs.region_calls.Passes.{knows, IsPassOf}
use Rattle.script_handlers.specs.handler_threads.Working.{AreReady as AllReady, HaveWorked}
use Rattle.script_handlers.specs.Calling.{MayCall}
use Rattle.script_handlers.specs.Handled.{IsReady as IsReadyFor, HasRun as HasRunFor}
use Rattle.script_handlers.specs.declared.handler.Handler.{Handler}

module _ {N : Type 0} {of : Ghosts N} where
  -- a handler that has made no call, with room for its replies
  abbrev pub IsReady : Naming → ServiceId → Handler (Pass N of) → Type 0
  IsReady name place h = IsReadyFor {S = ServiceId} {P = Pass N of} {K = ThePass} IsPassOf knows (λ k. k.handler) (λ k. k.calls) (MayCall name) place h

  -- what it is once it has made its calls
  abbrev pub HasRun : Naming → ServiceId → ℕ → Handler (Pass N of) → Handler (Pass N of) → Type 0
  HasRun name place time old new = HasRunFor {S = ServiceId} {P = Pass N of} {K = ThePass} IsPassOf knows (λ k. k.handler) (λ k. k.calls) (Does name time) place old new

  abbrev pub AreReady : Naming → ServiceId → List (Handler (Pass N of)) → Type 0
  AreReady name place hs = AllReady (IsReady name) place hs

  abbrev pub HaveRun : Naming → ServiceId → ℕ → List (Handler (Pass N of)) → List (Handler (Pass N of)) → Type 0
  HaveRun name place time olds news = HaveWorked (λ s old new. HasRun name s time old new) place olds news

  -- the handlers' passes are of the server at this place
  abbrev pub AllOfPlace : ServiceId → List (Handler (Pass N of)) → Type 0
  AllOfPlace place [] = Unit {0}
  AllOfPlace place (h ∷ hs) = IsPassOf place h.pass × AllOfPlace place hs

  abbrev pub pass_of : Handler (Pass N of) → ThePass
  pass_of h = knows h.pass

  abbrev pub lines_in : Handler (Pass N of) → List TheLine
  lines_in h = h.replies.items

  abbrev pub spent_in : Handler (Pass N of) → Option Spent
  spent_in h = h.spent
