use Rattle.script_run.proofs.region_calls_laws.OwnNames.{server_named, locks_named, service_named, versions_named}
use Rattle.script_run.specs.region_calls.Store.{regions_of}
use Rattle.run_model.specs.Closed.{flushes_in}
use Rattle.script_run.specs.Rooms.{script_in}
use Rattle.run_command.proofs.carrying.carry_out.Given as goal

-- the server of the store that was opened, for the script
abbrev pub ghosts-serve-N-ServerNaming : goal.ghosts-serve-N-ServerNaming
ghosts-serve-N-ServerNaming g a = server_named g.D.Disk (λ r. flushes_in r (script_in a.time (regions_of a.opened) a.rooms.items)) a.opened

-- its locks
abbrev pub ghosts-serve-N-LockNaming : goal.ghosts-serve-N-LockNaming
ghosts-serve-N-LockNaming g a = locks_named (λ r. flushes_in r (script_in a.time (regions_of a.opened) a.rooms.items)) a.opened

-- its log
abbrev pub ghosts-serve-N-ServiceNaming : goal.ghosts-serve-N-ServiceNaming
ghosts-serve-N-ServiceNaming g a = service_named g.D.Disk a.opened

-- its versions
abbrev pub ghosts-serve-N-VersionsNaming : goal.ghosts-serve-N-VersionsNaming
ghosts-serve-N-VersionsNaming g a = versions_named a.opened
