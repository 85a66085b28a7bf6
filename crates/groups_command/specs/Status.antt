-- The statuses of a run on several disks, and the line that refuses with each.
use Rattle.std.specs.Prelude.{◌≡◌, ℕ, ◌⊎◌, List, [], ◌∷◌, Contains, Option, Some, None, Result, Ok, Err, codes}
use Rattle.std.specs.Fmt.{decimal}
use Rattle.log_model.specs.declared.damage.Damage.{Damage}
use Rattle.script_model.specs.Fields.{Why}
use Rattle.script_model.specs.Outputs.{refused}
use Rattle.script_model.specs.Why.{why_of}
use Rattle.command_base.specs.declared.status.Status.{Status}
use Rattle.command_base.specs.declared.status.Status.TheVariants as ends
use Rattle.command_base.specs.Status.{refusal_line as one_line}
use Rattle.groups_run.specs.group_servers.declared.refusal.GroupsWhy.{GroupsWhy}
use Rattle.groups_run.specs.group_servers.declared.refusal.GroupsWhy.TheVariants as whys
use Rattle.groups_command.specs.declared.status.GroupsStatus.{GroupsStatus}
use Rattle.groups_command.specs.declared.status.WrongRegion.{WrongRegion}
use Rattle.groups_command.specs.declared.status.GroupsStatus.TheVariants as statuses

-- the exit status of the program
abbrev pub exit_status : GroupsStatus → ℕ
exit_status statuses.Done = 0
exit_status statuses.Memory = 1
exit_status statuses.Usage = 2
exit_status (statuses.Script line why) = 3
exit_status statuses.SourceFault = 4
exit_status statuses.DiskFault = 5
exit_status statuses.SinkFault = 6
exit_status (statuses.Damaged disk damage) = 7
exit_status (statuses.NumbersSpent region last) = 8
exit_status (statuses.WrongGroup disk region) = 11

-- ---- beside the statuses of one disk's commands

-- what `run` tells, which is the same here
abbrev pub status_as : Status → GroupsStatus
status_as ends.Memory = statuses.Memory
status_as ends.Usage = statuses.Usage
status_as (ends.Script line why) = statuses.Script line why
status_as ends.SourceFault = statuses.SourceFault
status_as ends.DiskFault = statuses.DiskFault
status_as ends.SinkFault = statuses.SinkFault
status_as (ends.NumbersSpent region last) = statuses.NumbersSpent region last
status_as _ = statuses.Done

-- those that are the same
abbrev pub IsShared : Status → Type 0
IsShared (ends.Damaged damage) = ⊥
IsShared (ends.NotEmpty name) = ⊥
IsShared (ends.NoPosition file has) = ⊥
IsShared _ = Unit {0}

-- what `run` would tell, or the region that lies on another group's disk
abbrev pub split_of : GroupsStatus → Result Status WrongRegion
split_of statuses.Done = Ok ends.Done
split_of statuses.Memory = Ok ends.Memory
split_of statuses.Usage = Ok ends.Usage
split_of (statuses.Script line why) = Ok (ends.Script line why)
split_of statuses.SourceFault = Ok ends.SourceFault
split_of statuses.DiskFault = Ok ends.DiskFault
split_of statuses.SinkFault = Ok ends.SinkFault
split_of (statuses.Damaged disk damage) = Ok (ends.Damaged damage)
split_of (statuses.NumbersSpent region last) = Ok (ends.NumbersSpent region last)
split_of (statuses.WrongGroup disk region) = Err (record { disk = disk; region = region })

-- ---- refusal lines

-- the disk of this number has something of this region, which is another group's
unfoldable pub refused_group : ℕ → ℕ → List ℕ
refused_group disk region = refused (codes "group" ∷ decimal disk ∷ decimal region ∷ [])

-- the one line that a refusal writes
abbrev pub refusal_line : GroupsStatus → Option (List ℕ)
refusal_line statuses.Done = None
refusal_line statuses.Memory = one_line ends.Memory
refusal_line statuses.Usage = one_line ends.Usage
refusal_line (statuses.Script line why) = one_line (ends.Script line why)
refusal_line statuses.SourceFault = one_line ends.SourceFault
refusal_line statuses.DiskFault = one_line ends.DiskFault
refusal_line statuses.SinkFault = None
refusal_line (statuses.Damaged disk damage) = one_line (ends.Damaged damage)
refusal_line (statuses.NumbersSpent region last) = None
refusal_line (statuses.WrongGroup disk region) = Some (refused_group disk region)

-- with which that line alone comes: out of memory and a fault of a disk may come with a report
abbrev pub IsRefusal : GroupsStatus → Type 0
IsRefusal statuses.Usage = Unit {0}
IsRefusal (statuses.Script line why) = Unit {0}
IsRefusal statuses.SourceFault = Unit {0}
IsRefusal (statuses.Damaged disk damage) = Unit {0}
IsRefusal (statuses.WrongGroup disk region) = Unit {0}
IsRefusal _ = ⊥

-- with which no disk was looked at
abbrev pub LeavesDisks : GroupsStatus → Type 0
LeavesDisks statuses.Usage = Unit {0}
LeavesDisks (statuses.Script line why) = Unit {0}
LeavesDisks statuses.SourceFault = Unit {0}
LeavesDisks _ = ⊥

-- ---- of stores that aren't opened

-- the status, by the cause and the number of the disk
abbrev pub status_for : GroupsWhy → ℕ → GroupsStatus
status_for whys.Memory disk = statuses.Memory
status_for whys.DiskFault disk = statuses.DiskFault
status_for (whys.Damaged damage) disk = statuses.Damaged disk damage
status_for (whys.WrongGroup region) disk = statuses.WrongGroup disk region

-- with which a script's run ends
abbrev pub IsParsedEnd : GroupsStatus → Type 0
IsParsedEnd statuses.Usage = ⊥
IsParsedEnd (statuses.Script line why) = ⊥
IsParsedEnd statuses.SourceFault = ⊥
IsParsedEnd _ = Unit {0}

-- ---- what comes only where

-- the first wrong line that it tells is one
abbrev pub IsScriptFault : GroupsStatus → (ℕ → Why → Type 0) → Type 0
IsScriptFault (statuses.Script line why) P = P line (why_of why)
IsScriptFault _ P = Unit {0}

-- the damage that it tells, and of which disk, are so
abbrev pub IsDamageOf : GroupsStatus → (ℕ → Damage → Type 0) → Type 0
IsDamageOf (statuses.Damaged disk damage) P = P disk damage
IsDamageOf _ P = Unit {0}

-- the region that it tells, and on which disk, are so
abbrev pub IsWrongGroupOf : GroupsStatus → (ℕ → ℕ → Type 0) → Type 0
IsWrongGroupOf (statuses.WrongGroup disk region) P = P disk region
IsWrongGroupOf _ P = Unit {0}

-- ---- what comes exactly where

-- it tells this line and this cause
abbrev pub IsScriptAt : GroupsStatus → ℕ → Why → Type 0
IsScriptAt (statuses.Script at y) line why = (at ≡ line) × (why_of y ≡ why)
IsScriptAt _ line why = ⊥

-- this status, or one that is decided before it: out of memory always is
abbrev pub IsOrEarlier : GroupsStatus → GroupsStatus → List GroupsStatus → Type 0
IsOrEarlier status it earlier = (status ≡ it) ⊎ Contains (statuses.Memory ∷ earlier) status

-- with which a run without a fault ends
abbrev pub IsComplete : GroupsStatus → Type 0
IsComplete statuses.Done = Unit {0}
IsComplete statuses.Memory = Unit {0}
IsComplete (statuses.NumbersSpent region last) = Unit {0}
IsComplete _ = ⊥
