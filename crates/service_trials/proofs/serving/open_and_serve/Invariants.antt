use Rattle.std.proofs.Common.{[]}
use Rattle.region_calls.proofs.OwnNames.{server_named, locks_named, service_named, versions_named}
use Rattle.service_trials.proofs.serving.open_and_serve.Given as goal

-- the server of the store that was opened, none of whose calls is a flush
abbrev pub ghosts-serve-N-ServerNaming : goal.ghosts-serve-N-ServerNaming
ghosts-serve-N-ServerNaming g a = server_named g.D.Disk (λ r. []) a.opened

-- its locks
abbrev pub ghosts-serve-N-LockNaming : goal.ghosts-serve-N-LockNaming
ghosts-serve-N-LockNaming g a = locks_named (λ r. []) a.opened

-- its log
abbrev pub ghosts-serve-N-ServiceNaming : goal.ghosts-serve-N-ServiceNaming
ghosts-serve-N-ServiceNaming g a = service_named g.D.Disk a.opened

-- its versions
abbrev pub ghosts-serve-N-VersionsNaming : goal.ghosts-serve-N-VersionsNaming
ghosts-serve-N-VersionsNaming g a = versions_named a.opened
