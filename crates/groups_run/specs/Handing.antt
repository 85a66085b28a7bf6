-- Handlers of several servers, with the passes that they are handed and give back.
use Rattle.std.specs.Prelude.{◌≡◌, ℕ, ◌+◌, List, [], ◌∷◌, map, Option, Some, None, IfSome}
use Rattle.script_model.specs.Report.{ReplyLine}
use Rattle.server_model.specs.Pass.{Pass as ThePass, IsFresh}
use Rattle.run_model.specs.declared.spent.Spent.{Spent}
use Rattle.group_calls.specs.region_lock.declared.naming.LockNaming.{Ghosts}
use Rattle.group_calls.specs.region_calls.declared.pass.Pass.{Pass}
use Rattle.group_calls.specs.region_calls.Deals.{passes_back}
use Rattle.group_calls.specs.region_calls.Passes.{knows}
use Rattle.group_calls.specs.script_handlers.declared.handler.Handler.{Handler}
use Rattle.script_run.specs.declared.room.CallRoom.{CallRoom}
use Rattle.group_calls.specs.declared.groups.GroupPass.{GroupPass}
use Rattle.groups_run.specs.declared.passes.GroupPasses.{GroupPasses}
use Rattle.group_calls.specs.Passes.{known, IsGroupPassOf}
use Rattle.group_calls.specs.Servers.{Servers}

-- where there is such a pass, it is this handler's, and no call was made with it
abbrev pub IsFreshAt : {N : Type 0} {g : Ghosts N} → ℕ → Option (Pass N g) → Type 0
IsFreshAt n None = Unit {0}
IsFreshAt n (Some p) = IsFresh n (knows p)

module _ {N1 N2 N3 N4 : Type 0} {g1 : Ghosts N1} {g2 : Ghosts N2} {g3 : Ghosts N3} {g4 : Ghosts N4} where
  -- the passes of a handler of this number, who made no call
  pub record AreFresh (n : ℕ) (p : GroupPass N1 N2 N3 N4 g1 g2 g3 g4) : Type 0 where
    pub first : IsFresh n (knows p.first)
    pub second : IsFreshAt n p.second
    pub third : IsFreshAt n p.third
    pub fourth : IsFreshAt n p.fourth

  -- the handler has the room's calls, and the passes of this number
  pub record IsTaken (n : ℕ) (room : CallRoom) (h : Handler (GroupPass N1 N2 N3 N4 g1 g2 g3 g4)) : Type 0 where
    pub fresh : AreFresh n h.pass
    pub calls : h.calls ≡ room.calls
    pub replies : h.replies ≡ room.replies
    pub spent : h.spent ≡ None

  abbrev pub AreTaken : ℕ → List CallRoom → List (Handler (GroupPass N1 N2 N3 N4 g1 g2 g3 g4)) → Type 0
  AreTaken n [] [] = Unit {0}
  AreTaken n [] (h ∷ hs) = ⊥
  AreTaken n (room ∷ rooms) [] = ⊥
  AreTaken n (room ∷ rooms) (h ∷ hs) = IsTaken n room h × AreTaken (n + 1) rooms hs

  -- the handlers' passes are of these servers
  abbrev pub AllOfServers : Servers → List (Handler (GroupPass N1 N2 N3 N4 g1 g2 g3 g4)) → Type 0
  AllOfServers s [] = Unit {0}
  AllOfServers s (h ∷ hs) = IsGroupPassOf s h.pass × AllOfServers s hs

  -- what the handlers' passes of one group's server know
  abbrev pub known_on : ℕ → List (Handler (GroupPass N1 N2 N3 N4 g1 g2 g3 g4)) → List ThePass
  known_on k hs = map (λ h. known h.pass k) hs

  -- no pass is back yet
  pub record NoneIsBack (p : GroupPasses N1 N2 N3 N4 g1 g2 g3 g4) : Type 0 where
    pub first : passes_back p.first ≡ []
    pub second : IfSome p.second (λ q. passes_back q ≡ [])
    pub third : IfSome p.third (λ q. passes_back q ≡ [])
    pub fourth : IfSome p.fourth (λ q. passes_back q ≡ [])

  -- those of these handlers are back
  pub record HaveBack (p : GroupPasses N1 N2 N3 N4 g1 g2 g3 g4) (hs : List (Handler (GroupPass N1 N2 N3 N4 g1 g2 g3 g4))) : Type 0 where
    pub first : passes_back p.first ≡ known_on 1 hs
    pub second : IfSome p.second (λ q. passes_back q ≡ known_on 2 hs)
    pub third : IfSome p.third (λ q. passes_back q ≡ known_on 3 hs)
    pub fourth : IfSome p.fourth (λ q. passes_back q ≡ known_on 4 hs)

  abbrev pub lines_in : Handler (GroupPass N1 N2 N3 N4 g1 g2 g3 g4) → List ReplyLine
  lines_in h = h.replies.items

  abbrev pub spent_in : Handler (GroupPass N1 N2 N3 N4 g1 g2 g3 g4) → Option Spent
  spent_in h = h.spent
