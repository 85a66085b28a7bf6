use Rattle.groups_run.proofs.region_calls_laws.OwnNames.{server_named, locks_named, service_named, versions_named}
use Rattle.groups_run.specs.region_calls.Store.{regions_of}
use Rattle.run_model.specs.Closed.{flushes_in}
use Rattle.groups_run.specs.script_run.Rooms.{script_in}
use Rattle.groups_run.specs.Found.{or_that}
use Rattle.groups_command.proofs.carrying.carry_out_groups.Given as goal

-- ---- the first group's server, for the script: its own name, its locks, its log and its versions

abbrev pub ghosts-serve_groups-N1-ServerNaming : goal.ghosts-serve_groups-N1-ServerNaming
ghosts-serve_groups-N1-ServerNaming g a = server_named g.D.Disk (λ r. flushes_in r (script_in a.time (regions_of a.opened.first) a.rooms.items)) a.opened.first

abbrev pub ghosts-serve_groups-N1-LockNaming : goal.ghosts-serve_groups-N1-LockNaming
ghosts-serve_groups-N1-LockNaming g a = locks_named (λ r. flushes_in r (script_in a.time (regions_of a.opened.first) a.rooms.items)) a.opened.first

abbrev pub ghosts-serve_groups-N1-ServiceNaming : goal.ghosts-serve_groups-N1-ServiceNaming
ghosts-serve_groups-N1-ServiceNaming g a = service_named g.D.Disk a.opened.first

abbrev pub ghosts-serve_groups-N1-VersionsNaming : goal.ghosts-serve_groups-N1-VersionsNaming
ghosts-serve_groups-N1-VersionsNaming g a = versions_named a.opened.first

-- ---- the second group's, or the first one's where there is none

abbrev pub ghosts-serve_groups-N2-ServerNaming : goal.ghosts-serve_groups-N2-ServerNaming
ghosts-serve_groups-N2-ServerNaming g a = server_named g.D.Disk (λ r. flushes_in r (script_in a.time (regions_of a.opened.first) a.rooms.items)) (or_that a.opened.first a.opened.second)

abbrev pub ghosts-serve_groups-N2-LockNaming : goal.ghosts-serve_groups-N2-LockNaming
ghosts-serve_groups-N2-LockNaming g a = locks_named (λ r. flushes_in r (script_in a.time (regions_of a.opened.first) a.rooms.items)) (or_that a.opened.first a.opened.second)

abbrev pub ghosts-serve_groups-N2-ServiceNaming : goal.ghosts-serve_groups-N2-ServiceNaming
ghosts-serve_groups-N2-ServiceNaming g a = service_named g.D.Disk (or_that a.opened.first a.opened.second)

abbrev pub ghosts-serve_groups-N2-VersionsNaming : goal.ghosts-serve_groups-N2-VersionsNaming
ghosts-serve_groups-N2-VersionsNaming g a = versions_named (or_that a.opened.first a.opened.second)

-- ---- the third group's, or the first one's where there is none

abbrev pub ghosts-serve_groups-N3-ServerNaming : goal.ghosts-serve_groups-N3-ServerNaming
ghosts-serve_groups-N3-ServerNaming g a = server_named g.D.Disk (λ r. flushes_in r (script_in a.time (regions_of a.opened.first) a.rooms.items)) (or_that a.opened.first a.opened.third)

abbrev pub ghosts-serve_groups-N3-LockNaming : goal.ghosts-serve_groups-N3-LockNaming
ghosts-serve_groups-N3-LockNaming g a = locks_named (λ r. flushes_in r (script_in a.time (regions_of a.opened.first) a.rooms.items)) (or_that a.opened.first a.opened.third)

abbrev pub ghosts-serve_groups-N3-ServiceNaming : goal.ghosts-serve_groups-N3-ServiceNaming
ghosts-serve_groups-N3-ServiceNaming g a = service_named g.D.Disk (or_that a.opened.first a.opened.third)

abbrev pub ghosts-serve_groups-N3-VersionsNaming : goal.ghosts-serve_groups-N3-VersionsNaming
ghosts-serve_groups-N3-VersionsNaming g a = versions_named (or_that a.opened.first a.opened.third)

-- ---- the fourth group's, or the first one's where there is none

abbrev pub ghosts-serve_groups-N4-ServerNaming : goal.ghosts-serve_groups-N4-ServerNaming
ghosts-serve_groups-N4-ServerNaming g a = server_named g.D.Disk (λ r. flushes_in r (script_in a.time (regions_of a.opened.first) a.rooms.items)) (or_that a.opened.first a.opened.fourth)

abbrev pub ghosts-serve_groups-N4-LockNaming : goal.ghosts-serve_groups-N4-LockNaming
ghosts-serve_groups-N4-LockNaming g a = locks_named (λ r. flushes_in r (script_in a.time (regions_of a.opened.first) a.rooms.items)) (or_that a.opened.first a.opened.fourth)

abbrev pub ghosts-serve_groups-N4-ServiceNaming : goal.ghosts-serve_groups-N4-ServiceNaming
ghosts-serve_groups-N4-ServiceNaming g a = service_named g.D.Disk (or_that a.opened.first a.opened.fourth)

abbrev pub ghosts-serve_groups-N4-VersionsNaming : goal.ghosts-serve_groups-N4-VersionsNaming
ghosts-serve_groups-N4-VersionsNaming g a = versions_named (or_that a.opened.first a.opened.fourth)
