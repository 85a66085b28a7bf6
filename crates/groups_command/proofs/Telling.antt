-- What each clause of a run on several disks says of a status that ends it.
use Rattle.std.proofs.Common.{◌≡◌, ℕ, zero, suc, ◌<◌, ◌⊎◌, List, [], ◌∷◌, Contains, Option, Some, None, refl, sym, ap, ◌∙◌, subst, arith, inl, inr}
use Rattle.std.proofs.lemmas.Bool.{cases_lt}
use Rattle.log_model.specs.declared.damage.Damage.{Damage}
use Rattle.log_model.specs.Damage.{IsDamage}
use Rattle.disk_images.specs.Crash.{DiskView}
use Rattle.script_model.specs.Calls.{Script, Says}
use Rattle.script_model.specs.Fields.{Why}
use Rattle.script_model.specs.Why.{why_of}
use Rattle.script_model.specs.declared.why.ScriptWhy.{ScriptWhy}
use Rattle.script_model.specs.Outputs.{refused_memory}
use Rattle.script_model.specs.declared.command.Command.TheVariants.{Groups}
use Rattle.run_model.proofs.KeepsFound.{one_last}
use Rattle.command_base.specs.Invocation.{taken_of}
use Rattle.command_base.specs.Prints.{Prints}
use Rattle.command_base.specs.Status.{IsInputRefusal, IsScriptFault as IsOneScriptFault}
use Rattle.command_base.specs.declared.status.Status.{Status}
use Rattle.command_base.specs.declared.status.Status.TheVariants as ends
use Rattle.command_base.proofs.Endings.{refused_so, same_disk}
use Rattle.run_command.proofs.recover_command_laws.OneDamage.{one_told}
use Rattle.run_command.specs.Ends.{IsReportEnd}
use Rattle.run_command.proofs.Telling.{report_cases}
use Rattle.groups_run.specs.group_servers.declared.refusal.GroupsWhy.{GroupsWhy}
use Rattle.groups_run.specs.group_servers.declared.refusal.GroupsWhy.TheVariants as whys
use Rattle.groups_command.specs.Carried.{AreNotOpened}
use Rattle.groups_command.specs.Disks.{AreSound, HaveNoOthers, IsFirstDamaged, IsFirstWrong}
use Rattle.groups_command.specs.Ends.{groups_invocation, EndsGroups, GroupsEnd}
use Rattle.groups_command.specs.Status.{refusal_line, status_as, status_for, IsShared, IsRefusal, LeavesDisks, IsScriptFault, IsScriptAt, IsDamageOf, IsWrongGroupOf, IsOrEarlier, IsParsedEnd, IsComplete}
use Rattle.groups_command.specs.declared.status.GroupsStatus.{GroupsStatus}
use Rattle.groups_command.specs.declared.status.GroupsStatus.TheVariants as statuses

-- ---- with a report

pub report_shared : (status : Status) → IsReportEnd status → IsShared status
report_shared = report_cases IsShared tt tt tt tt (λ region last. tt)

pub report_refuses : (status : Status) → IsReportEnd status → IsRefusal (status_as status) → ⊥
report_refuses = report_cases (λ s. IsRefusal (status_as s) → ⊥) (λ e. e) (λ e. e) (λ e. e) (λ e. e) (λ region last e. e)

pub report_undamaged : (P : ℕ → Damage → Type 0) (status : Status) → IsReportEnd status → IsDamageOf (status_as status) P
report_undamaged P = report_cases (λ s. IsDamageOf (status_as s) P) tt tt tt tt (λ region last. tt)

pub report_right : (P : ℕ → ℕ → Type 0) (status : Status) → IsReportEnd status → IsWrongGroupOf (status_as status) P
report_right P = report_cases (λ s. IsWrongGroupOf (status_as s) P) tt tt tt tt (λ region last. tt)

pub report_parsed : (status : Status) → IsReportEnd status → IsParsedEnd (status_as status)
report_parsed = report_cases (λ s. IsParsedEnd (status_as s)) tt tt tt tt (λ region last. tt)

pub report_disk : (status : Status) → IsReportEnd status → status_as status ≡ statuses.DiskFault → status ≡ ends.DiskFault
report_disk = report_cases (λ s. status_as s ≡ statuses.DiskFault → s ≡ ends.DiskFault) (λ e. absurd cc) (λ e. absurd cc) (λ e. refl) (λ e. absurd cc) (λ region last e. absurd cc)

pub report_sink : (status : Status) → IsReportEnd status → status_as status ≡ statuses.SinkFault → status ≡ ends.SinkFault
report_sink = report_cases (λ s. status_as s ≡ statuses.SinkFault → s ≡ ends.SinkFault) (λ e. absurd cc) (λ e. absurd cc) (λ e. absurd cc) (λ e. refl) (λ region last e. absurd cc)

pub report_complete : (d k : Type 0) → (d → ⊥) → (k → ⊥) → (status : Status) → IsReportEnd status → (status ≡ ends.DiskFault → d) → (status ≡ ends.SinkFault → k) → IsComplete (status_as status)
report_complete d k no_disk no_sink =
    report_cases (λ s. (s ≡ ends.DiskFault → d) → (s ≡ ends.SinkFault → k) → IsComplete (status_as s))
    (λ disk sink. tt) (λ disk sink. tt) (λ disk sink. absurd (no_disk (disk refl))) (λ disk sink. absurd (no_sink (sink refl))) (λ region last disk sink. tt)

-- ---- without servers

pub memory_first : (status it : GroupsStatus) (earlier : List GroupsStatus) → status ≡ statuses.Memory → IsOrEarlier status it earlier
memory_first status it earlier is = inr (0, omega arith, sym is)

pub refused_parsed : (why : GroupsWhy) (disk : ℕ) → IsParsedEnd (status_for why disk)
refused_parsed whys.Memory disk = tt
refused_parsed whys.DiskFault disk = tt
refused_parsed (whys.Damaged damage) disk = tt
refused_parsed (whys.WrongGroup region) disk = tt

pub refused_fault : (why : GroupsWhy) (disk : ℕ) → status_for why disk ≡ statuses.DiskFault → why ≡ whys.DiskFault
refused_fault whys.Memory disk e = absurd cc
refused_fault whys.DiskFault disk e = refl
refused_fault (whys.Damaged damage) disk e = absurd cc
refused_fault (whys.WrongGroup region) disk e = absurd cc

pub refused_sink : (why : GroupsWhy) (disk : ℕ) → status_for why disk ≡ statuses.SinkFault → ⊥
refused_sink whys.Memory disk e = absurd cc
refused_sink whys.DiskFault disk e = absurd cc
refused_sink (whys.Damaged damage) disk e = absurd cc
refused_sink (whys.WrongGroup region) disk e = absurd cc

-- a region that has a sequence id in the files of another group's disk isn't one that has none
not_clear : (groups : ℕ) (found : ℕ → DiskView) (k r : ℕ) → HaveNoOthers groups found → IsFirstWrong groups found k r → ⊥
not_clear groups found k r clear w = omega (arith, w.wrong.last.2, one_last (found k).files r w.wrong.last.0 0 w.wrong.last.1 (clear k w.there r w.wrong.there.0 w.wrong.there.1 w.wrong.other))

pub not_wrong : (groups : ℕ) (found : ℕ → DiskView) (disk region : ℕ) → HaveNoOthers groups found → IsFirstWrong groups found disk region → ⊥
not_wrong groups found disk region clear w = not_clear groups found disk region clear w

-- there is one first
module _ (groups : ℕ) (found : ℕ → DiskView) where
  not_below : (i r j s : ℕ) → IsFirstWrong groups found i r → IsFirstWrong groups found j s → i < j → ⊥
  not_below i r j s a b low =
      omega (arith, a.wrong.last.2, one_last (found i).files r a.wrong.last.0 0 a.wrong.last.1 (b.lower i a.there low r a.wrong.there.0 a.wrong.there.1 a.wrong.other))

  one_disk : (i r j s : ℕ) → IsFirstWrong groups found i r → IsFirstWrong groups found j s → i ≡ j
  one_disk i r j s a b = elim (cases_lt i j) [
    | inl low ↦ absurd (not_below i r j s a b low)
    | inr high ↦ elim (cases_lt j i) [ inl low ↦ absurd (not_below j s i r b a low) | inr also ↦ omega (arith, high, also) ]
  ]

  not_less : (i r s : ℕ) → IsFirstWrong groups found i r → IsFirstWrong groups found i s → r < s → ⊥
  not_less i r s a b low =
      omega (arith, a.wrong.last.2, one_last (found i).files r a.wrong.last.0 0 a.wrong.last.1 (b.wrong.lower r a.wrong.there.0 low a.wrong.other))

  one_region : (i r s : ℕ) → IsFirstWrong groups found i r → IsFirstWrong groups found i s → r ≡ s
  one_region i r s a b = elim (cases_lt r s) [
    | inl low ↦ absurd (not_less i r s a b low)
    | inr high ↦ elim (cases_lt s r) [ inl low ↦ absurd (not_less i s r b a low) | inr also ↦ omega (arith, high, also) ]
  ]

  pub one_wrong : (i r j s : ℕ) → IsFirstWrong groups found i r → IsFirstWrong groups found j s → statuses.WrongGroup i r ≡ statuses.WrongGroup j s
  one_wrong i r j s a b =
      let disk = one_disk i r j s a b in
      let region = one_region j r s (subst (λ k. IsFirstWrong groups found k r) disk a) b in
      λ x. statuses.WrongGroup (disk x) (region x)

module _ (groups : ℕ) (before after : ℕ → DiskView) (disk : ℕ) where
  -- what is told of a disk is so
  pub refused_damage : (why : GroupsWhy) → AreNotOpened groups before after why disk → IsDamageOf (status_for why disk) (IsFirstDamaged groups before)
  refused_damage whys.Memory n = tt
  refused_damage whys.DiskFault n = tt
  refused_damage (whys.Damaged damage) n =
      let d = n.damaged damage refl in
      record { there = n.there; unsound = d.0.0; damaged = d.0.1; lower = λ k is low. n.sound k is (inl low) }
  refused_damage (whys.WrongGroup region) n = tt

  pub refused_leaves : (why : GroupsWhy) → AreNotOpened groups before after why disk → IsDamageOf (status_for why disk) (λ disk damage. (after disk).files ≡ (before disk).files)
  refused_leaves whys.Memory n = tt
  refused_leaves whys.DiskFault n = tt
  refused_leaves (whys.Damaged damage) n = (n.damaged damage refl).1
  refused_leaves (whys.WrongGroup region) n = tt

  pub refused_wrong : (why : GroupsWhy) → AreNotOpened groups before after why disk → IsWrongGroupOf (status_for why disk) (IsFirstWrong groups before)
  refused_wrong whys.Memory n = tt
  refused_wrong whys.DiskFault n = tt
  refused_wrong (whys.Damaged damage) n = tt
  refused_wrong (whys.WrongGroup region) n = n.wrong region refl

  -- the first damaged disk is told, with what shows it first
  pub first_damage : (why : GroupsWhy) → AreNotOpened groups before after why disk → (at : ℕ) (damage : Damage) → IsFirstDamaged groups before at damage
      → IsOrEarlier (status_for why disk) (statuses.Damaged at damage) (statuses.DiskFault ∷ [])
  first_damage whys.Memory n at damage d = inr (0, omega arith, refl)
  first_damage whys.DiskFault n at damage d = inr (1, omega arith, refl)
  first_damage (whys.Damaged x) n at damage d = elim (cases_lt at disk) [
    | inl low ↦ absurd (d.unsound (n.sound at d.there (inl low)))
    | inr high ↦ elim (cases_lt disk at) [
      | inl low ↦ absurd ((n.damaged x refl).0.0 (d.lower disk n.there low))
      | inr also ↦ (let same : disk ≡ at = omega (arith, high, also) in
          let one : x ≡ damage = one_told (before at).files x damage (subst (λ k. IsDamage (before k).files x) same (n.damaged x refl).0.1) d.damaged in
          inl (λ i. statuses.Damaged (same i) (one i)))
    ]
  ]
  first_damage (whys.WrongGroup region) n at damage d = absurd (d.unsound (n.sound at d.there (inr (region, refl))))

  -- the first disk that has another group's region is told, where all are sound
  pub first_wrong : (why : GroupsWhy) → AreNotOpened groups before after why disk → AreSound groups before → (at region : ℕ) → IsFirstWrong groups before at region
      → IsOrEarlier (status_for why disk) (statuses.WrongGroup at region) (statuses.DiskFault ∷ [])
  first_wrong whys.Memory n sound at region w = inr (0, omega arith, refl)
  first_wrong whys.DiskFault n sound at region w = inr (1, omega arith, refl)
  first_wrong (whys.Damaged damage) n sound at region w = absurd ((n.damaged damage refl).0.0 (sound disk n.there))
  first_wrong (whys.WrongGroup s) n sound at region w = inl (one_wrong groups before disk s at region (n.wrong s refl) w)

  pub refused_complete : (d : Type 0) (why : GroupsWhy) → AreNotOpened groups before after why disk → AreSound groups before → HaveNoOthers groups before
      → (why ≡ whys.DiskFault → d) → (d → ⊥) → IsComplete (status_for why disk)
  refused_complete d whys.Memory n sound clear cause none = tt
  refused_complete d whys.DiskFault n sound clear cause none = absurd (none (cause refl))
  refused_complete d (whys.Damaged damage) n sound clear cause none = absurd ((n.damaged damage refl).0.0 (sound disk n.there))
  refused_complete d (whys.WrongGroup region) n sound clear cause none = absurd (not_wrong groups before disk region clear (n.wrong region refl))

-- ---- with a script

-- a status with which a script's run ends
parsed_each : (P : GroupsStatus → Type 0) → P statuses.Done → P statuses.Memory → P statuses.DiskFault → P statuses.SinkFault → ((disk : ℕ) (damage : Damage) → P (statuses.Damaged disk damage))
    → ((region last : ℕ) → P (statuses.NumbersSpent region last)) → ((disk region : ℕ) → P (statuses.WrongGroup disk region)) → (status : GroupsStatus) → IsParsedEnd status → P status
parsed_each P done memory fault sink damaged spent wrong statuses.Done may = done
parsed_each P done memory fault sink damaged spent wrong statuses.Memory may = memory
parsed_each P done memory fault sink damaged spent wrong statuses.DiskFault may = fault
parsed_each P done memory fault sink damaged spent wrong statuses.SinkFault may = sink
parsed_each P done memory fault sink damaged spent wrong (statuses.Damaged disk damage) may = damaged disk damage
parsed_each P done memory fault sink damaged spent wrong (statuses.NumbersSpent region last) may = spent region last
parsed_each P done memory fault sink damaged spent wrong (statuses.WrongGroup disk region) may = wrong disk region
parsed_each P done memory fault sink damaged spent wrong statuses.Usage may = absurd may
parsed_each P done memory fault sink damaged spent wrong (statuses.Script line why) may = absurd may
parsed_each P done memory fault sink damaged spent wrong statuses.SourceFault may = absurd may

pub run_ends : (groups : ℕ) (script : Script) (text had has : List ℕ) (before after : ℕ → DiskView) (rose : ℕ → Type 0) (sank : Type 0) → Says Groups text script → (status : GroupsStatus) → IsParsedEnd status
    → EndsGroups status groups script before after rose sank (taken_of had has) → GroupsEnd status (groups_invocation groups text before after had has) rose sank
run_ends groups script text had has before after rose sank says =
    parsed_each (λ s. EndsGroups s groups script before after rose sank (taken_of had has) → GroupsEnd s (groups_invocation groups text before after had has) rose sank)
    (λ e. (script, says, e)) (λ e. inl (script, says, e)) (λ e. (script, says, e)) (λ e. (script, says, e)) (λ disk damage e. (script, says, e)) (λ region last e. (script, says, e))
    (λ disk region e. (script, says, e))

pub run_leaves : (Q : Type 0) (status : GroupsStatus) → IsParsedEnd status → LeavesDisks status → Q
run_leaves Q = parsed_each (λ s. LeavesDisks s → Q) (λ e. absurd e) (λ e. absurd e) (λ e. absurd e) (λ e. absurd e) (λ disk damage e. absurd e) (λ region last e. absurd e) (λ disk region e. absurd e)

pub run_script_right : (P : ℕ → Why → Type 0) (status : GroupsStatus) → IsParsedEnd status → IsScriptFault status P
run_script_right P = parsed_each (λ s. IsScriptFault s P) tt tt tt tt (λ disk damage. tt) (λ region last. tt) (λ disk region. tt)

pub run_source : (status : GroupsStatus) → IsParsedEnd status → status ≡ statuses.SourceFault → ⊥
run_source status may is = subst IsParsedEnd is may

pub run_usage : (status : GroupsStatus) → IsParsedEnd status → status ≡ statuses.Usage → ⊥
run_usage status may is = subst IsParsedEnd is may

some_none : {A : Type 0} (a : A) → Some a ≡ None → ⊥
some_none a e = absurd cc

-- with a script no line is wrong
pub right_script : (fault : Option (ℕ × Why)) (line : ℕ) (why : Why) → fault ≡ None → fault ≡ Some (line, why) → ⊥
right_script fault line why right wrong = some_none _ (sym wrong ∙ right)

-- one more status may come before it
pub wider : (status it : GroupsStatus) → IsOrEarlier status it (statuses.DiskFault ∷ []) → IsOrEarlier status it (statuses.SourceFault ∷ statuses.DiskFault ∷ [])
wider status it (inl is) = inl is
wider status it (inr (zero, low, is)) = inr (0, omega arith, is)
wider status it (inr (suc k, low, is)) = inr (suc (suc k), omega (arith, low), is)

-- ---- without a script

-- a status with which the reading of a script is refused
input_cases : (P : Status → Type 0) → P ends.Memory → ((line : ℕ) (why : ScriptWhy) → P (ends.Script line why)) → P ends.SourceFault → (status : Status) → IsInputRefusal status → P status
input_cases P memory script source ends.Memory may = memory
input_cases P memory script source (ends.Script line why) may = script line why
input_cases P memory script source ends.SourceFault may = source
input_cases P memory script source ends.Done may = absurd may
input_cases P memory script source ends.Usage may = absurd may
input_cases P memory script source ends.DiskFault may = absurd may
input_cases P memory script source ends.SinkFault may = absurd may
input_cases P memory script source (ends.Damaged damage) may = absurd may
input_cases P memory script source (ends.NumbersSpent region last) may = absurd may
input_cases P memory script source (ends.NotEmpty name) may = absurd may
input_cases P memory script source (ends.NoPosition number entries) may = absurd may

pub input_shared : (status : Status) → IsInputRefusal status → IsShared status
input_shared = input_cases IsShared tt (λ line why. tt) tt

pub input_ends : (groups : ℕ) (text had has : List ℕ) (disks : ℕ → DiskView) (rose : ℕ → Type 0) (sank : Type 0) (status : Status) → IsInputRefusal status
    → ((line : List ℕ) → refusal_line (status_as status) ≡ Some line → Prints had has line sank) → GroupsEnd (status_as status) (groups_invocation groups text disks disks had has) rose sank
input_ends groups text had has disks rose sank =
    input_cases (λ s. ((line : List ℕ) → refusal_line (status_as s) ≡ Some line → Prints had has line sank) → GroupsEnd (status_as s) (groups_invocation groups text disks disks had has) rose sank)
    (λ prints. inr (refused_so had has refused_memory sank (prints refused_memory refl), λ k is. same_disk (disks k))) (λ line why prints. tt) (λ prints. tt)

pub input_script : (P : ℕ → Why → Type 0) (status : Status) → IsInputRefusal status → IsOneScriptFault status P → IsScriptFault (status_as status) P
input_script P = input_cases (λ s. IsOneScriptFault s P → IsScriptFault (status_as s) P) (λ told. tt) (λ line why told. told) (λ told. tt)

pub input_source : (status : Status) → IsInputRefusal status → status_as status ≡ statuses.SourceFault → status ≡ ends.SourceFault
input_source = input_cases (λ s. status_as s ≡ statuses.SourceFault → s ≡ ends.SourceFault) (λ e. absurd cc) (λ line why e. absurd cc) (λ e. refl)

pub input_disk : (status : Status) → IsInputRefusal status → status_as status ≡ statuses.DiskFault → ⊥
input_disk = input_cases (λ s. status_as s ≡ statuses.DiskFault → ⊥) (λ e. absurd cc) (λ line why e. absurd cc) (λ e. absurd cc)

pub input_sink : (status : Status) → IsInputRefusal status → status_as status ≡ statuses.SinkFault → ⊥
input_sink = input_cases (λ s. status_as s ≡ statuses.SinkFault → ⊥) (λ e. absurd cc) (λ line why e. absurd cc) (λ e. absurd cc)

pub input_usage : (status : Status) → IsInputRefusal status → status_as status ≡ statuses.Usage → ⊥
input_usage = input_cases (λ s. status_as s ≡ statuses.Usage → ⊥) (λ e. absurd cc) (λ line why e. absurd cc) (λ e. absurd cc)

pub input_undamaged : (P : ℕ → Damage → Type 0) (status : Status) → IsInputRefusal status → IsDamageOf (status_as status) P
input_undamaged P = input_cases (λ s. IsDamageOf (status_as s) P) tt (λ line why. tt) tt

pub input_right : (P : ℕ → ℕ → Type 0) (status : Status) → IsInputRefusal status → IsWrongGroupOf (status_as status) P
input_right P = input_cases (λ s. IsWrongGroupOf (status_as s) P) tt (λ line why. tt) tt

-- with a right script its reading was refused for out of memory, or for a fault
pub input_first : (fault : Option (ℕ × Why)) (it : GroupsStatus) (earlier : List GroupsStatus) → fault ≡ None → (status : Status) → IsInputRefusal status
    → IsOneScriptFault status (λ line why. fault ≡ Some (line, why)) → IsOrEarlier (status_as status) it (statuses.SourceFault ∷ earlier)
input_first fault it earlier right =
    input_cases (λ s. IsOneScriptFault s (λ line why. fault ≡ Some (line, why)) → IsOrEarlier (status_as s) it (statuses.SourceFault ∷ earlier))
    (λ told. inr (0, omega arith, refl)) (λ line why told. absurd (some_none _ (sym told ∙ right))) (λ told. inr (1, omega arith, refl))

pub input_complete : (fault : Option (ℕ × Why)) (s : Type 0) → fault ≡ None → (s → ⊥) → (status : Status) → IsInputRefusal status
    → IsOneScriptFault status (λ line why. fault ≡ Some (line, why)) → (status ≡ ends.SourceFault → s) → IsComplete (status_as status)
input_complete fault s right none =
    input_cases (λ x. IsOneScriptFault x (λ line why. fault ≡ Some (line, why)) → (x ≡ ends.SourceFault → s) → IsComplete (status_as x))
    (λ told source. tt) (λ line why told source. absurd (some_none _ (sym told ∙ right))) (λ told source. absurd (none (source refl)))

-- a wrong line is told with its cause, unless memory was refused or the source failed
pub input_at : (fault : Option (ℕ × Why)) (line : ℕ) (why : Why) → fault ≡ Some (line, why) → (status : Status) → IsInputRefusal status
    → IsOneScriptFault status (λ line why. fault ≡ Some (line, why)) → IsScriptAt (status_as status) line why ⊎ Contains (statuses.Memory ∷ statuses.SourceFault ∷ []) (status_as status)
input_at fault line why wrong =
    input_cases (λ s. IsOneScriptFault s (λ line why. fault ≡ Some (line, why)) → IsScriptAt (status_as s) line why ⊎ Contains (statuses.Memory ∷ statuses.SourceFault ∷ []) (status_as s))
    (λ told. inr (0, omega arith, refl)) (λ at x told. inl (same_pair (at, why_of x) (line, why) (sym told ∙ wrong))) (λ told. inr (1, omega arith, refl))
  where
    or_that : ℕ × Why → Option (ℕ × Why) → ℕ × Why
    or_that p None = p
    or_that p (Some q) = q

    same_pair : (p q : ℕ × Why) → Some p ≡ Some q → (p.0 ≡ q.0) × (p.1 ≡ q.1)
    same_pair p q e = (ap (λ (o : Option (ℕ × Why)). (or_that p o).0) e, ap (λ (o : Option (ℕ × Why)). (or_that p o).1) e)
