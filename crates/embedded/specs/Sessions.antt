-- Sessions on a server, as contracts see them.
use Rattle.server_model.specs.Pass.{Naming, Pass}
use Rattle.handler_threads.specs.region_lock.declared.naming.LockNaming.{Ghosts}
use Rattle.handler_threads.specs.region_calls.Passes.{knows, IsPassOf}
use Rattle.embedded.specs.Settings.{Setting, setting_of, IsSetFor}
use Rattle.embedded.specs.declared.sitting.ServerSession.{ServerSession}

module _ {D N R : Type 0} {g : Ghosts N} where
  abbrev pub setting_in : ServerSession D N R g → Setting
  setting_in s = setting_of s.server.now s.time (knows s.first.value)

  abbrev pub knows_in : ServerSession D N R g → Pass
  knows_in s = knows s.pass

  -- the pass is one of its server's, and what is kept beside it is right
  abbrev pub is_open_in : Naming → ServerSession D N R g → Type 0
  is_open_in name s = IsPassOf s.server.now s.pass × IsSetFor name s.time s.regions s.calls (knows s.first.value) (knows s.pass)
