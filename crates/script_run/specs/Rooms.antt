-- Room for replies, and handlers that are made of it.
use Rattle.std.specs.Prelude.{◌≡◌, ℕ, ◌+◌, ◌≤◌, List, [], ◌∷◌, map, vec_len, vec_capacity, None}
use Rattle.std.specs.List.{AllByRecursion}
use Rattle.region_model.specs.Calls.{Call}
use Rattle.script_model.specs.Calls.{Script}
use Rattle.script_calls.specs.Calls.{call_of}
use Rattle.server_model.specs.Pass.{IsFresh}
use Rattle.script_handlers.specs.region_lock.declared.naming.LockNaming.{Ghosts}
use Rattle.script_handlers.specs.region_calls.declared.pass.Pass.{Pass}
use Rattle.script_handlers.specs.region_calls.Passes.{knows}
use Rattle.script_handlers.specs.declared.handler.Handler.{Handler}
use Rattle.script_run.specs.declared.room.CallRoom.{CallRoom}

abbrev pub calls_in : CallRoom → List Call
calls_in room = map call_of room.calls.items

-- no reply, and room for one to each call
pub record IsRoom (room : CallRoom) : Type 0 where
  pub none : room.replies.items ≡ []
  pub room_there : vec_len room.calls ≤ vec_capacity room.replies

abbrev pub AreRooms : List CallRoom → Type 0
AreRooms rooms = AllByRecursion IsRoom rooms

-- the script that the rooms are for
abbrev pub script_in : (time regions : ℕ) → List CallRoom → Script
script_in time regions rooms = record { time = time; regions = regions; handlers = map calls_in rooms }

-- the handler has the room's calls, and the pass of this number
pub record IsTaken {N : Type 0} {of : Ghosts N} (n : ℕ) (room : CallRoom) (h : Handler (Pass N of)) : Type 0 where
  pub fresh : IsFresh n (knows h.pass)
  pub calls : h.calls ≡ room.calls
  pub replies : h.replies ≡ room.replies
  pub spent : h.spent ≡ None

abbrev pub AreTaken : {N : Type 0} {of : Ghosts N} → ℕ → List CallRoom → List (Handler (Pass N of)) → Type 0
AreTaken n [] [] = Unit {0}
AreTaken n [] (h ∷ hs) = ⊥
AreTaken n (room ∷ rooms) [] = ⊥
AreTaken n (room ∷ rooms) (h ∷ hs) = IsTaken n room h × AreTaken (n + 1) rooms hs
