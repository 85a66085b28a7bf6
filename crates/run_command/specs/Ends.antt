-- What stands with each status of a run.
use Rattle.std.specs.Prelude.{◌≡◌, ℕ, ◌⊎◌, Bool, List, map, Option}
use Rattle.std.specs.List.{flat_map}
use Rattle.cell_model.specs.Lists.{IsPrefix}
use Rattle.disk_images.specs.Crash.{DiskView}
use Rattle.script_model.specs.Calls.{Script, Says}
use Rattle.script_model.specs.Report.{ReplyLine, Report, report_text}
use Rattle.script_model.specs.Outputs.{refused_memory, refused_disk, refused_damaged, refused_disagree}
use Rattle.script_model.specs.declared.command.Command.TheVariants.{Run}
use Rattle.run_model.specs.declared.spent.Spent.{Spent}
use Rattle.report_text.specs.Reading.{IsReport}
use Rattle.run_model.specs.Headline.{report_of, IsHeadline, IsSpentHeadline, KeepsFound, IsHalfOpened}
use Rattle.recover_command.specs.Recovered.{IsStoreDamage}
use Rattle.log_model.specs.declared.damage.Damage.{Damage}
use Rattle.log_model.specs.declared.damage.Damage.TheVariants as damages
use Rattle.script_run.specs.region_calls.declared.refusal.StartWhy.{StartWhy}
use Rattle.script_run.specs.region_calls.declared.refusal.StartWhy.TheVariants as whys
use Rattle.script_run.specs.region_calls.declared.closed.ClosedRegion.{ClosedRegion}
use Rattle.command_base.specs.Invocation.{Invocation, IsUnchanged, IsRefused}
use Rattle.command_base.specs.Prints.{Prints}
use Rattle.command_base.specs.Status.{exit_status}
use Rattle.command_base.specs.declared.status.Status.{Status}
use Rattle.command_base.specs.declared.status.Status.TheVariants as ends
use Rattle.run_command.specs.Decided.{decided}
use Rattle.run_command.specs.Reported.{region_line}

abbrev pub refused_damage : Damage → List ℕ
refused_damage (damages.Bytes name at) = refused_damaged name at
refused_damage (damages.Two first second region number) = refused_disagree first second region number

-- The text is a report for which the headline holds, one of those that have one reading.
abbrev pub IsRunReport : Script → DiskView → DiskView → (status : ℕ) → List ℕ → Type 0
IsRunReport script before after status text = ∥ ((h : IsHeadline script before after status text) × IsReport (report_of h.histories h.replies status)) ∥₁

-- so is this one, whose status names the first put that was answered spent
abbrev pub IsSpentReport : Script → DiskView → DiskView → Spent → List ℕ → Type 0
IsSpentReport script before after spent text = ∥ ((h : IsSpentHeadline script before after spent text) × IsReport (report_of h.0.histories h.0.replies 8)) ∥₁

-- The sink failed: what it took begins a report. One that ends with 5 has its cause.
pub record IsCutReport (script : Script) (before after : DiskView) (rose : Type 0) (taken : List ℕ) : Type 0 where
  pub text : List ℕ
  pub status : ℕ
  pub begins : IsPrefix taken text
  pub report : IsRunReport script before after status text
  pub cause : status ≡ 5 → rose

-- A report, or a beginning of one where the sink failed; the log broke exactly where it ends with 5. Or the one line of a
-- run that was refused. A number that a crash leaves is there, and which one it is isn't told. `rose` says that the disk's count of
-- faults did, `sank` that the sink's did.
abbrev pub EndsRun : Status → Script → DiskView → DiskView → (rose sank : Type 0) → List ℕ → Type 0
EndsRun ends.Done script before after rose sank taken = IsRunReport script before after 0 taken
EndsRun ends.Memory script before after rose sank taken = IsRunReport script before after 1 taken ⊎ (IsRefused refused_memory sank taken × KeepsFound before after)
EndsRun ends.DiskFault script before after rose sank taken = IsRunReport script before after 5 taken ⊎ (IsRefused refused_disk sank taken × IsHalfOpened before after)
EndsRun ends.SinkFault script before after rose sank taken = IsCutReport script before after rose taken
EndsRun (ends.Damaged damage) script before after rose sank taken =
    IsRefused (refused_damage damage) sank taken × IsStoreDamage before.files damage × (after.files ≡ before.files) × IsHalfOpened before after
EndsRun (ends.NumbersSpent region last) script before after rose sank taken = IsSpentReport script before after (record { region = region; last = last }) taken
EndsRun _ script before after rose sank taken = ⊥

-- a run of the script that the source has
abbrev pub RunsScript : Status → Invocation → (rose sank : Type 0) → Type 0
RunsScript status o rose sank = (script : Script) × Says Run o.script script × EndsRun status script o.before o.after rose sank o.taken

-- What stands with each status. With no script nothing was run: memory for it was refused, or it is told why there is none.
abbrev pub RunEnds : Status → Invocation → (rose sank : Type 0) → Type 0
RunEnds ends.Memory o rose sank = RunsScript ends.Memory o rose sank ⊎ (IsRefused refused_memory sank o.taken × IsUnchanged o.before o.after)
RunEnds ends.Usage o rose sank = Unit {0}
RunEnds (ends.Script line why) o rose sank = Unit {0}
RunEnds ends.SourceFault o rose sank = Unit {0}
RunEnds (ends.NotEmpty name) o rose sank = Unit {0}
RunEnds status o rose sank = RunsScript status o rose sank

-- ---- which statuses there are

-- with which the handlers' report ends
abbrev pub IsReportEnd : Status → Type 0
IsReportEnd ends.Done = Unit {0}
IsReportEnd ends.Memory = Unit {0}
IsReportEnd ends.DiskFault = Unit {0}
IsReportEnd ends.SinkFault = Unit {0}
IsReportEnd (ends.NumbersSpent region last) = Unit {0}
IsReportEnd _ = ⊥

-- with which a script's run ends
abbrev pub IsParsedEnd : Status → Type 0
IsParsedEnd (ends.Damaged damage) = Unit {0}
IsParsedEnd status = IsReportEnd status

-- with which the command ends
abbrev pub IsRunEnd : Status → Type 0
IsRunEnd (ends.Script line why) = Unit {0}
IsRunEnd ends.SourceFault = Unit {0}
IsRunEnd status = IsParsedEnd status

-- with which one line alone comes: out of memory and a fault of the disk may come with a report
abbrev pub IsRunRefusal : Status → Type 0
IsRunRefusal (ends.Script line why) = Unit {0}
IsRunRefusal ends.SourceFault = Unit {0}
IsRunRefusal (ends.Damaged damage) = Unit {0}
IsRunRefusal _ = ⊥

-- with which the store wasn't looked at
abbrev pub LeavesStore : Status → Type 0
LeavesStore (ends.Script line why) = Unit {0}
LeavesStore ends.SourceFault = Unit {0}
LeavesStore _ = ⊥

-- with which a run without a fault ends
abbrev pub IsRunComplete : Status → Type 0
IsRunComplete ends.Done = Unit {0}
IsRunComplete ends.Memory = Unit {0}
IsRunComplete (ends.NumbersSpent region last) = Unit {0}
IsRunComplete _ = ⊥

-- ---- parts

abbrev pub joined : List (List ReplyLine) → List ReplyLine
joined parts = flat_map (λ part. part) parts

abbrev pub report_in : List ClosedRegion → List ReplyLine → ℕ → Report
report_in regions lines status = record { regions = map region_line regions; replies = lines; status = status }

-- the report was printed, which has one reading, or no memory was found for it
pub data IsPrinted (rose : Type 0) (status : Status) (old new : List ℕ) (regions : List ClosedRegion)
    (lines : List ReplyLine) (spent : Option Spent) (broken : Bool) : Type 0 where
  Printed : status ≡ decided broken spent lines → IsReport (report_in regions lines (exit_status status))
      → Prints old new (report_text (report_in regions lines (exit_status status))) (status ≡ ends.SinkFault) → IsPrinted rose status old new regions lines spent broken
  Cut : status ≡ ends.SinkFault → IsReport (report_in regions lines (exit_status (decided broken spent lines)))
      → Prints old new (report_text (report_in regions lines (exit_status (decided broken spent lines)))) (status ≡ ends.SinkFault) → IsPrinted rose status old new regions lines spent broken
  Refused : status ≡ ends.Memory → Prints old new refused_memory rose → IsPrinted rose status old new regions lines spent broken

-- the status of an opening that is refused
abbrev pub status_for : StartWhy → Status
status_for whys.Memory = ends.Memory
status_for whys.DiskFault = ends.DiskFault
status_for (whys.Damaged damage) = ends.Damaged damage

abbrev pub IsStatusOf : StartWhy → Status → Type 0
IsStatusOf why status = status ≡ status_for why
