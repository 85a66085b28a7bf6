-- What each clause of a run says of a status that ends it.
use Rattle.std.proofs.Common.{◌≡◌, ℕ, zero, suc, List, [], ◌∷◌, Option, Some, None, refl, sym, ap, ◌∙◌, subst, arith, inl, inr}
use Rattle.log_model.specs.declared.damage.Damage.{Damage}
use Rattle.log_model.specs.Files.{Files, IsSound}
use Rattle.log_model.specs.Damage.{IsDamage}
use Rattle.disk_images.specs.Crash.{DiskView}
use Rattle.script_model.specs.Calls.{Script, Says}
use Rattle.script_model.specs.Fields.{Why}
use Rattle.script_model.specs.Outputs.{refused_memory}
use Rattle.script_model.specs.declared.command.Command.TheVariants.{Run}
use Rattle.script_run.specs.region_calls.declared.refusal.StartWhy.{StartWhy}
use Rattle.script_run.specs.region_calls.declared.refusal.StartWhy.TheVariants as whys
use Rattle.command_base.specs.Invocation.{invocation, taken_of}
use Rattle.command_base.specs.Prints.{Prints}
use Rattle.command_base.specs.Status.{refusal_line, IfDamaged, IsDamageOf, IsInputRefusal, IsOrEarlier, IsScriptFault}
use Rattle.command_base.specs.declared.status.Status.{Status}
use Rattle.command_base.specs.declared.status.Status.TheVariants as ends
use Rattle.command_base.proofs.Endings.{refused_so, same_disk}
use Rattle.recover_command.specs.Recovered.{IsStoreDamage}
use Rattle.recover_command.proofs.OneDamage.{one_told}
use Rattle.run_command.specs.Carried.{IfFoundDamaged}
use Rattle.run_command.specs.Ends.{EndsRun, RunEnds, IsReportEnd, IsParsedEnd, IsRunEnd, IsRunRefusal, IsRunComplete, LeavesStore, status_for}

-- ---- with a report

-- a status with which a report ends
pub report_cases : (P : Status → Type 0) → P ends.Done → P ends.Memory → P ends.DiskFault → P ends.SinkFault → ((region last : ℕ) → P (ends.NumbersSpent region last))
    → (status : Status) → IsReportEnd status → P status
report_cases P done memory disk sink spent ends.Done may = done
report_cases P done memory disk sink spent ends.Memory may = memory
report_cases P done memory disk sink spent ends.DiskFault may = disk
report_cases P done memory disk sink spent ends.SinkFault may = sink
report_cases P done memory disk sink spent (ends.NumbersSpent region last) may = spent region last
report_cases P done memory disk sink spent ends.Usage may = absurd may
report_cases P done memory disk sink spent (ends.Script line why) may = absurd may
report_cases P done memory disk sink spent ends.SourceFault may = absurd may
report_cases P done memory disk sink spent (ends.Damaged damage) may = absurd may
report_cases P done memory disk sink spent (ends.NotEmpty name) may = absurd may
report_cases P done memory disk sink spent (ends.NoPosition number entries) may = absurd may

pub report_refuses : (status : Status) → IsReportEnd status → IsRunRefusal status → ⊥
report_refuses = report_cases (λ s. IsRunRefusal s → ⊥) (λ e. e) (λ e. e) (λ e. e) (λ e. e) (λ region last e. e)

pub report_undamaged : (Q : Type 0) (status : Status) → IsReportEnd status → IfDamaged status Q
report_undamaged Q = report_cases (λ s. IfDamaged s Q) tt tt tt tt (λ region last. tt)

pub report_damage : (P : Damage → Type 0) (status : Status) → IsReportEnd status → IsDamageOf status P
report_damage P = report_cases (λ s. IsDamageOf s P) tt tt tt tt (λ region last. tt)

pub report_parsed : (status : Status) → IsReportEnd status → IsParsedEnd status
report_parsed = report_cases IsParsedEnd tt tt tt tt (λ region last. tt)

pub report_complete : (d k : Type 0) → (d → ⊥) → (k → ⊥) → (status : Status) → IsReportEnd status → (status ≡ ends.DiskFault → d) → (status ≡ ends.SinkFault → k) → IsRunComplete status
report_complete d k no_disk no_sink =
    report_cases (λ s. (s ≡ ends.DiskFault → d) → (s ≡ ends.SinkFault → k) → IsRunComplete s)
    (λ disk sink. tt) (λ disk sink. tt) (λ disk sink. absurd (no_disk (disk refl))) (λ disk sink. absurd (no_sink (sink refl))) (λ region last disk sink. tt)

-- ---- without a server

pub memory_first : (status it : Status) (earlier : List Status) → status ≡ ends.Memory → IsOrEarlier status it earlier
memory_first status it earlier is = inr (0, omega arith, sym is)

pub refused_parsed : (why : StartWhy) → IsParsedEnd (status_for why)
refused_parsed whys.Memory = tt
refused_parsed whys.DiskFault = tt
refused_parsed (whys.Damaged damage) = tt

pub refused_fault : (why : StartWhy) → status_for why ≡ ends.DiskFault → why ≡ whys.DiskFault
refused_fault whys.Memory e = absurd cc
refused_fault whys.DiskFault e = refl
refused_fault (whys.Damaged damage) e = absurd cc

pub refused_leaves : (why : StartWhy) (P : Damage → Type 0) (Q : Type 0) → IfFoundDamaged why (λ damage. P damage × Q) → IfDamaged (status_for why) Q
refused_leaves whys.Memory P Q h = tt
refused_leaves whys.DiskFault P Q h = tt
refused_leaves (whys.Damaged damage) P Q h = h.1

pub refused_damage : (why : StartWhy) (P : Damage → Type 0) (Q : Type 0) → IfFoundDamaged why (λ damage. P damage × Q) → IsDamageOf (status_for why) P
refused_damage whys.Memory P Q h = tt
refused_damage whys.DiskFault P Q h = tt
refused_damage (whys.Damaged damage) P Q h = h.0

pub refused_first : (why : StartWhy) (files : Files) (Q : Type 0) (damage : Damage) → IfFoundDamaged why (λ d. IsStoreDamage files d × Q) → IsDamage files damage
    → IsOrEarlier (status_for why) (ends.Damaged damage) (ends.DiskFault ∷ [])
refused_first whys.Memory files Q damage h is = inr (0, omega arith, refl)
refused_first whys.DiskFault files Q damage h is = inr (1, omega arith, refl)
refused_first (whys.Damaged d) files Q damage h is = inl (ap ends.Damaged (one_told files d damage h.0.1 is))

pub refused_complete : (why : StartWhy) (files : Files) (Q d : Type 0) → IsSound files → IfFoundDamaged why (λ damage. IsStoreDamage files damage × Q)
    → (why ≡ whys.DiskFault → d) → (d → ⊥) → IsRunComplete (status_for why)
refused_complete whys.Memory files Q d sound h disk none = tt
refused_complete whys.DiskFault files Q d sound h disk none = absurd (none (disk refl))
refused_complete (whys.Damaged damage) files Q d sound h disk none = absurd (h.0.0 sound)

-- ---- with a script

-- a status with which a script's run ends
parsed_cases : (P : Status → Type 0) → ((status : Status) → IsReportEnd status → P status) → ((damage : Damage) → P (ends.Damaged damage)) → (status : Status) → IsParsedEnd status → P status
parsed_cases P report damaged (ends.Damaged damage) may = damaged damage
parsed_cases P report damaged ends.Done may = report ends.Done may
parsed_cases P report damaged ends.Memory may = report ends.Memory may
parsed_cases P report damaged ends.DiskFault may = report ends.DiskFault may
parsed_cases P report damaged ends.SinkFault may = report ends.SinkFault may
parsed_cases P report damaged (ends.NumbersSpent region last) may = report (ends.NumbersSpent region last) may
parsed_cases P report damaged ends.Usage may = absurd may
parsed_cases P report damaged (ends.Script line why) may = absurd may
parsed_cases P report damaged ends.SourceFault may = absurd may
parsed_cases P report damaged (ends.NotEmpty name) may = absurd may
parsed_cases P report damaged (ends.NoPosition number entries) may = absurd may

-- so each status by itself
parsed_each : (P : Status → Type 0) → P ends.Done → P ends.Memory → P ends.DiskFault → P ends.SinkFault → ((region last : ℕ) → P (ends.NumbersSpent region last)) → ((damage : Damage) → P (ends.Damaged damage))
    → (status : Status) → IsParsedEnd status → P status
parsed_each P done memory disk sink spent damaged = parsed_cases P (report_cases P done memory disk sink spent) damaged

pub run_ends : (script : Script) (text had has : List ℕ) (before after : DiskView) (rose sank : Type 0) → Says Run text script → (status : Status) → IsParsedEnd status
    → EndsRun status script before after rose sank (taken_of had has) → RunEnds status (invocation text before after had has) rose sank
run_ends script text had has before after rose sank says =
    parsed_each (λ s. EndsRun s script before after rose sank (taken_of had has) → RunEnds s (invocation text before after had has) rose sank)
    (λ e. (script, says, e)) (λ e. inl (script, says, e)) (λ e. (script, says, e)) (λ e. (script, says, e)) (λ region last e. (script, says, e)) (λ damage e. (script, says, e))

pub run_leaves : (Q : Type 0) (status : Status) → IsParsedEnd status → LeavesStore status → Q
run_leaves Q = parsed_each (λ s. LeavesStore s → Q) (λ e. absurd e) (λ e. absurd e) (λ e. absurd e) (λ e. absurd e) (λ region last e. absurd e) (λ damage e. absurd e)

pub run_end : (status : Status) → IsParsedEnd status → IsRunEnd status
run_end = parsed_each IsRunEnd tt tt tt tt (λ region last. tt) (λ damage. tt)

pub run_script_right : (P : ℕ → Why → Type 0) (status : Status) → IsParsedEnd status → IsScriptFault status P
run_script_right P = parsed_each (λ s. IsScriptFault s P) tt tt tt tt (λ region last. tt) (λ damage. tt)

pub run_source : (status : Status) → IsParsedEnd status → status ≡ ends.SourceFault → ⊥
run_source status may is = subst IsParsedEnd is may

-- one more status may come before it
pub wider : (status it : Status) → IsOrEarlier status it (ends.DiskFault ∷ []) → IsOrEarlier status it (ends.SourceFault ∷ ends.DiskFault ∷ [])
wider status it (inl is) = inl is
wider status it (inr (zero, low, is)) = inr (0, omega arith, is)
wider status it (inr (suc k, low, is)) = inr (suc (suc k), omega (arith, low), is)

-- ---- without a script

pub input_ends : (text had has : List ℕ) (disk : DiskView) (rose sank : Type 0) (status : Status) → IsInputRefusal status
    → ((line : List ℕ) → refusal_line status ≡ Some line → Prints had has line sank) → RunEnds status (invocation text disk disk had has) rose sank
input_ends text had has disk rose sank ends.Memory may prints = inr (refused_so had has refused_memory sank (prints refused_memory refl), same_disk disk)
input_ends text had has disk rose sank (ends.Script line why) may prints = tt
input_ends text had has disk rose sank ends.SourceFault may prints = tt
input_ends text had has disk rose sank ends.Done may prints = absurd may
input_ends text had has disk rose sank ends.Usage may prints = absurd may
input_ends text had has disk rose sank ends.DiskFault may prints = absurd may
input_ends text had has disk rose sank ends.SinkFault may prints = absurd may
input_ends text had has disk rose sank (ends.Damaged damage) may prints = absurd may
input_ends text had has disk rose sank (ends.NumbersSpent region last) may prints = absurd may
input_ends text had has disk rose sank (ends.NotEmpty name) may prints = absurd may
input_ends text had has disk rose sank (ends.NoPosition number entries) may prints = absurd may

some_none : {A : Type 0} (a : A) → Some a ≡ None → ⊥
some_none a e = absurd cc

-- with a right script its reading was refused for out of memory, or for a fault
pub input_first : (fault : Option (ℕ × Why)) (it : Status) (earlier : List Status) → fault ≡ None → (status : Status) → IsInputRefusal status → IsScriptFault status (λ line why. fault ≡ Some (line, why))
    → IsOrEarlier status it (ends.SourceFault ∷ earlier)
input_first fault it earlier right ends.Memory may told = inr (0, omega arith, refl)
input_first fault it earlier right (ends.Script line why) may told = absurd (some_none _ (sym told ∙ right))
input_first fault it earlier right ends.SourceFault may told = inr (1, omega arith, refl)
input_first fault it earlier right ends.Done may told = absurd may
input_first fault it earlier right ends.Usage may told = absurd may
input_first fault it earlier right ends.DiskFault may told = absurd may
input_first fault it earlier right ends.SinkFault may told = absurd may
input_first fault it earlier right (ends.Damaged damage) may told = absurd may
input_first fault it earlier right (ends.NumbersSpent region last) may told = absurd may
input_first fault it earlier right (ends.NotEmpty name) may told = absurd may
input_first fault it earlier right (ends.NoPosition number entries) may told = absurd may

pub input_complete : (fault : Option (ℕ × Why)) (s : Type 0) → fault ≡ None → (s → ⊥) → (status : Status) → IsInputRefusal status → IsScriptFault status (λ line why. fault ≡ Some (line, why))
    → (status ≡ ends.SourceFault → s) → IsRunComplete status
input_complete fault s right none ends.Memory may told source = tt
input_complete fault s right none (ends.Script line why) may told source = absurd (some_none _ (sym told ∙ right))
input_complete fault s right none ends.SourceFault may told source = absurd (none (source refl))
input_complete fault s right none ends.Done may told source = absurd may
input_complete fault s right none ends.Usage may told source = absurd may
input_complete fault s right none ends.DiskFault may told source = absurd may
input_complete fault s right none ends.SinkFault may told source = absurd may
input_complete fault s right none (ends.Damaged damage) may told source = absurd may
input_complete fault s right none (ends.NumbersSpent region last) may told source = absurd may
input_complete fault s right none (ends.NotEmpty name) may told source = absurd may
input_complete fault s right none (ends.NoPosition number entries) may told source = absurd may
