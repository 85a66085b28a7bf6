-- What stands with each status of a run on several disks.
use Rattle.std.specs.Prelude.{◌≡◌, ℕ, ◌⊎◌, List}
use Rattle.cell_model.specs.Lists.{IsPrefix}
use Rattle.disk_images.specs.Crash.{DiskView}
use Rattle.script_model.specs.Calls.{Script, Says}
use Rattle.script_model.specs.Outputs.{refused_memory, refused_disk}
use Rattle.script_model.specs.declared.command.Command.TheVariants.{Groups}
use Rattle.run_model.specs.declared.spent.Spent.{Spent}
use Rattle.run_model.specs.Spent.{IsFirstSpent}
use Rattle.run_model.specs.Headline.{report_of, KeepsFound, IsHalfOpened}
use Rattle.report_text.specs.Reading.{IsReport}
use Rattle.command_base.specs.Invocation.{IsUnchanged, IsRefused, taken_of}
use Rattle.run_command.specs.Ends.{refused_damage}
use Rattle.groups_model.specs.Groups.{IsGroup}
use Rattle.groups_model.specs.Headline.{IsGroupsHeadline}
use Rattle.groups_command.specs.Disks.{OfEach}
use Rattle.groups_command.specs.Status.{refused_group}
use Rattle.groups_command.specs.declared.status.GroupsStatus.{GroupsStatus}
use Rattle.groups_command.specs.declared.status.GroupsStatus.TheVariants as statuses

-- One call, seen from outside: the bytes that the source had left, each group's disk before and after, and what the sink took.
pub record GroupsInvocation : Type 1 where
  pub groups : ℕ
  pub script : List ℕ
  pub before : ℕ → DiskView
  pub after : ℕ → DiskView
  pub taken : List ℕ

-- of a sink's bytes before and after
abbrev pub groups_invocation : ℕ → List ℕ → (before after : ℕ → DiskView) → (had has : List ℕ) → GroupsInvocation
groups_invocation groups script before after had has =
    record { groups = groups; script = script; before = before; after = after; taken = taken_of had has }

-- The text is a report for which the headline of so many disks holds, one of those that have one reading. `rose` says of each group that the count
-- of faults of its disk did.
abbrev pub IsGroupsReport : (groups : ℕ) → Script → (before after : ℕ → DiskView) → (rose : ℕ → Type 0) → (status : ℕ) → List ℕ → Type 0
IsGroupsReport groups script before after rose status text =
    ∥ ((h : IsGroupsHeadline groups script before after rose status text) × IsReport (report_of h.histories h.replies status)) ∥₁

-- so is this one, whose status names the first put that was answered spent
abbrev pub IsSpentGroupsReport : (groups : ℕ) → Script → (before after : ℕ → DiskView) → (rose : ℕ → Type 0) → Spent → List ℕ → Type 0
IsSpentGroupsReport groups script before after rose spent text =
    ∥ ((h : IsGroupsHeadline groups script before after rose 8 text) × IsFirstSpent spent h.replies × IsReport (report_of h.histories h.replies 8)) ∥₁

-- The sink failed: what it took begins a report. One that ends with 5 has its cause.
pub record IsCutGroupsReport (groups : ℕ) (script : Script) (before after : ℕ → DiskView) (rose : ℕ → Type 0) (taken : List ℕ) : Type 0 where
  pub text : List ℕ
  pub status : ℕ
  pub begins : IsPrefix taken text
  pub report : IsGroupsReport groups script before after rose status text
  pub cause : status ≡ 5 → (k : ℕ) × IsGroup groups k × rose k

-- A report, or a beginning of one where the sink failed; a group's log broke exactly where it ends with 5. Or the one line of a run that was
-- refused. A number that a crash leaves is there, and which one it is isn't told. `rose` says of each group that the count of faults of its disk
-- did, `sank` that the sink's did.
abbrev pub EndsGroups : GroupsStatus → ℕ → Script → (before after : ℕ → DiskView) → (rose : ℕ → Type 0) → (sank : Type 0) → List ℕ → Type 0
EndsGroups statuses.Done groups script before after rose sank taken = IsGroupsReport groups script before after rose 0 taken
EndsGroups statuses.Memory groups script before after rose sank taken =
    IsGroupsReport groups script before after rose 1 taken ⊎ (IsRefused refused_memory sank taken × OfEach groups KeepsFound before after)
EndsGroups statuses.DiskFault groups script before after rose sank taken =
    IsGroupsReport groups script before after rose 5 taken ⊎ (IsRefused refused_disk sank taken × OfEach groups IsHalfOpened before after)
EndsGroups statuses.SinkFault groups script before after rose sank taken = IsCutGroupsReport groups script before after rose taken
EndsGroups (statuses.Damaged disk damage) groups script before after rose sank taken =
    IsRefused (refused_damage damage) sank taken × OfEach groups IsHalfOpened before after
EndsGroups (statuses.NumbersSpent region last) groups script before after rose sank taken =
    IsSpentGroupsReport groups script before after rose (record { region = region; last = last }) taken
EndsGroups (statuses.WrongGroup disk region) groups script before after rose sank taken =
    IsRefused (refused_group disk region) sank taken × OfEach groups IsHalfOpened before after
EndsGroups _ groups script before after rose sank taken = ⊥

-- a run of the script that the source has
abbrev pub RunsGroups : GroupsStatus → GroupsInvocation → (rose : ℕ → Type 0) → (sank : Type 0) → Type 0
RunsGroups status o rose sank = (script : Script) × Says Groups o.script script × EndsGroups status o.groups script o.before o.after rose sank o.taken

-- What stands with each status. With no script nothing was run: memory for it was refused, or it is told why there is none.
abbrev pub GroupsEnd : GroupsStatus → GroupsInvocation → (rose : ℕ → Type 0) → (sank : Type 0) → Type 0
GroupsEnd statuses.Memory o rose sank =
    RunsGroups statuses.Memory o rose sank ⊎ (IsRefused refused_memory sank o.taken × OfEach o.groups IsUnchanged o.before o.after)
GroupsEnd statuses.Usage o rose sank = Unit {0}
GroupsEnd (statuses.Script line why) o rose sank = Unit {0}
GroupsEnd statuses.SourceFault o rose sank = Unit {0}
GroupsEnd status o rose sank = RunsGroups status o rose sank
