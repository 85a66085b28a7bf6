-- A server that isn't there has no end.
use Rattle.std.proofs.Common.{ℕ, List, Option, Some, None}
use Rattle.disk_images.specs.declared.disk.Disk.{Ghosts}
use Rattle.handler_threads.specs.log_service.log_halves.declared.name.ServiceNaming.{Ghosts as LogGhosts}
use Rattle.handler_threads.specs.log_service.declared.seats.LogSeat.{LogSeat}
use Rattle.handler_threads.specs.region_calls.declared.naming.ServerNaming.{Ghosts as NameGhosts}
use Rattle.handler_threads.specs.region_calls.declared.passes.Passes.{Passes}
use Rattle.handler_threads.specs.region_lock.declared.naming.LockNaming.{Ghosts as LockGhosts}
use Rattle.region_versions.specs.declared.naming.VersionsNaming.{Ghosts as VersionGhosts}
use Rattle.group_servers.specs.Closing.{HasEndedAt}
use Rattle.group_servers.specs.Dealing.{AreBackAt}

module _ {D N : Type 0} (f : Ghosts D) (s : NameGhosts N) (g : LockGhosts N) (l : LogGhosts N) (v : VersionGhosts N) where
  pub none_ended : (handlers : ℕ) (p : Option (Passes N g)) (seats : Option (List LogSeat)) → AreBackAt None handlers p seats → HasEndedAt f s g l v p None
  none_ended handlers None seats back = tt
  none_ended handlers (Some p) seats back = absurd back
