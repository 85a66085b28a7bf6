-- How a load ends.
use Rattle.std.proofs.Common.{Err, ◌≡◌, ◌≢◌, ◌⊎◌, ℕ, ◌-◌, ◌^◌, min, sum_by, List, [], length, Some, inl, inr, refl, sym, ap, ◌∙◌, subst}
use Rattle.std.proofs.Math.Logic.{∥∥₁_map, ∥∥₁_elim}
use Rattle.log_model.specs.Files.{Files, IsSound}
use Rattle.log_model.specs.declared.damage.Damage.{Damage}
use Rattle.disk_images.specs.Crash.{DiskView, IsImageNow}
use Rattle.recovery_laws.specs.Alike.{AllAlike}
use Rattle.run_command.specs.found_files.Refusal.{IfDamage}
use Rattle.run_command.specs.found_files.declared.refusal.SplitRefusal.{SplitRefusal}
use Rattle.run_command.specs.found_files.declared.refusal.SplitRefusal.TheVariants as refusals
use Rattle.script_model.specs.Outputs.{refused_memory, refused_disk}
use Rattle.run_command.specs.region_replay.Ready.{Found}
use Rattle.run_command.specs.region_replay.Opened.{AreOf}
use Rattle.run_command.specs.region_replay.Cleared.{IsReady}
use Rattle.made_script.specs.Made.{made_script}
use Rattle.made_script.specs.Counts.{counts_of}
use Rattle.made_script.specs.declared.options.LoadOptions.{LoadOptions}
use Rattle.made_script.specs.declared.counts.CallCounts.{CallCounts}
use Rattle.run_model.specs.Headline.{KeepsFound}
use Rattle.run_model.proofs.KeepsFound.{all_keep}
use Rattle.load_model.specs.Text.{load_text, ended_text}
use Rattle.load_model.specs.Loaded.{HasLoaded, HasBroken, HasStopped}
use Rattle.load_model.proofs.Leaves.{loaded, stopped, none_spent, sound_left}
use Rattle.command_base.specs.Invocation.{invocation}
use Rattle.command_base.specs.Prints.{Prints}
use Rattle.command_base.specs.Ends.{Done, Failed}
use Rattle.command_base.specs.Status.{refusal_line, exit_status, IsPrintEnd, IsReadingEnd, IsComplete, IsRefusal}
use Rattle.command_base.specs.declared.status.Status.{Status}
use Rattle.command_base.specs.declared.status.Status.TheVariants as ends
use Rattle.command_base.proofs.Endings.{taken_whole, taken_begins, refused_so}
use Rattle.run_command.specs.recover_command.Recovered.{IsStoreDamage}
use Rattle.run_command.specs.recover_command.Refusals.{refused_as}
use Rattle.run_command.proofs.recover_command_laws.Leaving.{recovered}
use Rattle.load_command.specs.Counted.{cells_of}
use Rattle.load_command.specs.Statuses.{IsDecided, IsClosedEnd, IsPrintedAs}
use Rattle.load_command.specs.Ends.{EndsLoad, HasEnded}
use Rattle.load_command.proofs.Counted.{counts_cells}

-- ---- a store that was opened again

-- what stands with the whole output
pub done : (options : LoadOptions) (before left after : DiskView) (xs : List Found) (cells : ℕ) → HasEnded options before left ends.Done → IsImageNow left left.files → IsSound left.files → length xs ≡ 64
    → AreOf left.files after.files 1 xs → IsReady after → AllAlike left.files after.files → cells ≡ min (sum_by cells_of xs) (2 ^ 64 - 1)
    → ∥ HasLoaded options after (load_text (counts_of (made_script options)) cells) ∥₁
done options before left after xs cells ended now sound all are ready alike counted =
    let r = recovered [] [] [] left after xs sound all are ready alike in
    ∥∥₁_map (ended.reported (λ e. absurd cc)) (λ h.
    loaded options before left after h.0 (load_text (counts_of (made_script options)) cells) (sum_by cells_of xs) ended.right ended.empty h.1 now r.no_logs r.no_logs_in r.alike_in
    (counts_cells left.files after.files xs all are) (ap (load_text (counts_of (made_script options))) counted))

pub printed_ends : (status : Status) (options : LoadOptions) (text script had has : List ℕ) (before after : DiskView) (rose cut : Type 0) → IsPrintEnd status → ∥ HasLoaded options after text ∥₁ → KeepsFound before after
    → (status ≢ ends.Memory → Prints had has text (status ≡ ends.SinkFault)) → (status ≡ ends.Memory → Prints had has refused_memory cut)
    → EndsLoad status options (invocation script before after had has) rose cut
printed_ends ends.Done options text script had has before after rose cut may loads keeps printed refused =
    subst (λ (t : List ℕ). ∥ HasLoaded options after t ∥₁) (sym (taken_whole had has text _ (printed (λ e. absurd cc)) (λ e. absurd cc))) loads
printed_ends ends.Memory options text script had has before after rose cut may loads keeps printed refused = (refused_so had has refused_memory cut (refused refl), keeps)
printed_ends ends.SinkFault options text script had has before after rose cut may loads keeps printed refused = (text, taken_begins had has text _ (printed (λ e. absurd cc)), Done loads)
printed_ends ends.DiskFault options text script had has before after rose cut may loads keeps printed refused = absurd may
printed_ends (ends.Damaged damage) options text script had has before after rose cut may loads keeps printed refused = absurd may
printed_ends ends.Usage options text script had has before after rose cut may loads keeps printed refused = absurd may
printed_ends (ends.Script line why) options text script had has before after rose cut may loads keeps printed refused = absurd may
printed_ends ends.SourceFault options text script had has before after rose cut may loads keeps printed refused = absurd may
printed_ends (ends.NumbersSpent region last) options text script had has before after rose cut may loads keeps printed refused = absurd may
printed_ends (ends.NotEmpty name) options text script had has before after rose cut may loads keeps printed refused = absurd may
printed_ends (ends.NoPosition number entries) options text script had has before after rose cut may loads keeps printed refused = absurd may

pub refused_ends : (refusal : SplitRefusal) (options : LoadOptions) (script had has : List ℕ) (before after : DiskView) (rose cut : Type 0) → (refusal ≡ refusals.DiskFault → ⊥) → KeepsFound before after
    → ((text : List ℕ) → refusal_line (refused_as refusal) ≡ Some text → Prints had has text cut) → EndsLoad (refused_as refusal) options (invocation script before after had has) rose cut
refused_ends refusals.Memory options script had has before after rose cut no_fault keeps printed = (refused_so had has refused_memory cut (printed refused_memory refl), keeps)
refused_ends refusals.DiskFault options script had has before after rose cut no_fault keeps printed = absurd (no_fault refl)
refused_ends (refusals.Damaged damage) options script had has before after rose cut no_fault keeps printed = tt

-- ---- what can't come

pub print_complete : (status : Status) → IsPrintEnd status → (status ≡ ends.SinkFault → ⊥) → IsComplete status
print_complete ends.Done may no_sink = tt
print_complete ends.Memory may no_sink = tt
print_complete ends.SinkFault may no_sink = absurd (no_sink refl)
print_complete ends.DiskFault may no_sink = absurd may
print_complete (ends.Damaged damage) may no_sink = absurd may
print_complete ends.Usage may no_sink = absurd may
print_complete (ends.Script line why) may no_sink = absurd may
print_complete ends.SourceFault may no_sink = absurd may
print_complete (ends.NumbersSpent region last) may no_sink = absurd may
print_complete (ends.NotEmpty name) may no_sink = absurd may
print_complete (ends.NoPosition number entries) may no_sink = absurd may

pub refused_complete : (refusal : SplitRefusal) (D : Damage → Type 0) → (refusal ≡ refusals.DiskFault → ⊥) → ((d : Damage) → D d → ⊥) → IfDamage {T = List Found} (Err refusal) D → IsComplete (refused_as refusal)
refused_complete refusals.Memory D unbroken none h = tt
refused_complete refusals.DiskFault D unbroken none h = absurd (unbroken refl)
refused_complete (refusals.Damaged d) D unbroken none h = absurd (none d h)

-- the files that a run left are sound, so not damaged
pub undamaged : (options : LoadOptions) (before left : DiskView) (d : Damage) → HasEnded options before left ends.Done → IsImageNow left left.files → IsStoreDamage left.files d → ⊥
undamaged options before left d ended now damage =
    ∥∥₁_elim (ended.reported (λ e. absurd cc)) (λ x y. absurd x) (λ h. damage.0 (sound_left (made_script options) before left 0 h.0 ended.empty h.1 left.files now))

-- ---- a run that isn't done

none_spent_here : (options : LoadOptions) (before left : DiskView) (region last : ℕ) → HasEnded options before left (ends.NumbersSpent region last) → ⊥
none_spent_here options before left region last ended =
    ∥∥₁_elim (ended.reported (λ e. absurd cc)) (λ x y. absurd x) (λ h. none_spent options before left h.0 ended.right ended.empty h.1)

broken : (options : LoadOptions) (before left : DiskView) → HasEnded options before left ends.DiskFault → ∥ HasBroken options before left (ended_text (counts_of (made_script options)) 5) ⊎ HasStopped options left (ended_text (counts_of (made_script options)) 5) ∥₁
broken options before left ended = ∥∥₁_map (ended.reported (λ e. absurd cc)) (λ h. inl (record { is = refl; report = h.0; headline = h.1 }))

-- the run was done, and the opening after it met a fault
pub stopped_at : (options : LoadOptions) (before left after : DiskView) → HasEnded options before left ends.Done → IsImageNow left left.files → ((J : Files) → IsImageNow after J → IsImageNow left J ⊎ AllAlike left.files J)
    → ∥ HasBroken options before after (ended_text (counts_of (made_script options)) 5) ⊎ HasStopped options after (ended_text (counts_of (made_script options)) 5) ∥₁
stopped_at options before left after ended now either = ∥∥₁_map (ended.reported (λ e. absurd cc)) (λ h. inr (stopped options before left after h.0 ended.right ended.empty h.1 now either))

pub broken_ends : (result : Status) (options : LoadOptions) (text script had has : List ℕ) (before left : DiskView) (rose cut : Type 0) → IsPrintedAs ends.DiskFault result → ∥ HasBroken options before left text ⊎ HasStopped options left text ∥₁ → KeepsFound before left → rose
    → (result ≢ ends.Memory → Prints had has text (result ≡ ends.SinkFault)) → (result ≡ ends.Memory → Prints had has refused_memory cut)
    → EndsLoad result options (invocation script before left had has) rose cut
broken_ends result options text script had has before left rose cut (inl same) stands keeps rise printed refused =
    let said : Prints had has text (result ≡ ends.SinkFault) = printed (λ e. let no : ends.DiskFault ≡ ends.Memory = sym same ∙ e in absurd cc) in
    subst (λ (s : Status). EndsLoad s options (invocation script before left had has) rose cut) (sym same)
    (inl (subst (λ (t : List ℕ). ∥ HasBroken options before left t ⊎ HasStopped options left t ∥₁) (sym (taken_whole had has text _ said (λ e. let no : ends.DiskFault ≡ ends.SinkFault = sym same ∙ e in absurd cc))) stands))
broken_ends result options text script had has before left rose cut (inr (inl memory)) stands keeps rise printed refused =
    subst (λ (s : Status). EndsLoad s options (invocation script before left had has) rose cut) (sym memory) (refused_so had has refused_memory cut (refused memory), keeps)
broken_ends result options text script had has before left rose cut (inr (inr sink)) stands keeps rise printed refused =
    let said : Prints had has text (result ≡ ends.SinkFault) = printed (λ e. let no : ends.SinkFault ≡ ends.Memory = sym sink ∙ e in absurd cc) in
    subst (λ (s : Status). EndsLoad s options (invocation script before left had has) rose cut) (sym sink) (text, taken_begins had has text _ said, Failed rise stands)

-- a status of a run that is neither done nor out of memory
pub unfinished_ends : (status result : Status) (options : LoadOptions) (counts : CallCounts) (script had has : List ℕ) (before left : DiskView) (rose cut : Type 0) → IsDecided status → (status ≡ ends.Done → ⊥) → (status ≡ ends.Memory → ⊥)
    → IsPrintedAs status result → counts ≡ counts_of (made_script options) → HasEnded options before left status → (status ≡ ends.DiskFault → rose)
    → (result ≢ ends.Memory → Prints had has (ended_text counts (exit_status status)) (result ≡ ends.SinkFault)) → (result ≡ ends.Memory → Prints had has refused_memory cut)
    → EndsLoad result options (invocation script before left had has) rose cut
unfinished_ends ends.DiskFault result options counts script had has before left rose cut may undone found as_said same ended rise printed refused =
    broken_ends result options (ended_text counts 5) script had has before left rose cut as_said
    (subst (λ (k : CallCounts). ∥ HasBroken options before left (ended_text k 5) ⊎ HasStopped options left (ended_text k 5) ∥₁) (sym same) (broken options before left ended)) (all_keep before left ended.keeps) (rise refl) printed refused
unfinished_ends (ends.NumbersSpent region last) result options counts script had has before left rose cut may undone found as_said same ended rise printed refused = absurd (none_spent_here options before left region last ended)
unfinished_ends ends.Done result options counts script had has before left rose cut may undone found as_said same ended rise printed refused = absurd (undone refl)
unfinished_ends ends.Memory result options counts script had has before left rose cut may undone found as_said same ended rise printed refused = absurd (found refl)
unfinished_ends ends.SinkFault result options counts script had has before left rose cut may undone found as_said same ended rise printed refused = absurd may
unfinished_ends (ends.Damaged damage) result options counts script had has before left rose cut may undone found as_said same ended rise printed refused = absurd may
unfinished_ends ends.Usage result options counts script had has before left rose cut may undone found as_said same ended rise printed refused = absurd may
unfinished_ends (ends.Script line why) result options counts script had has before left rose cut may undone found as_said same ended rise printed refused = absurd may
unfinished_ends ends.SourceFault result options counts script had has before left rose cut may undone found as_said same ended rise printed refused = absurd may
unfinished_ends (ends.NotEmpty name) result options counts script had has before left rose cut may undone found as_said same ended rise printed refused = absurd may
unfinished_ends (ends.NoPosition number entries) result options counts script had has before left rose cut may undone found as_said same ended rise printed refused = absurd may

-- ---- parts of a decided status

pub decided_told : (status : Status) → IsDecided status → status ≡ ends.SinkFault → ⊥
decided_told status may is = subst IsDecided is may

-- printed as such a status, with no refusal but out of memory
pub unfinished_refusal : (status result : Status) (had has : List ℕ) (cut : Type 0) → IsDecided status → (status ≡ ends.Memory → ⊥) → IsPrintedAs status result → (result ≡ ends.Memory → Prints had has refused_memory cut) → IsRefusal result
    → (text : List ℕ) → refusal_line result ≡ Some text → Prints had has text cut
unfinished_refusal status result had has cut may found (inl same) refused is text line = absurd (no_refusal status may found (subst IsRefusal same is))
  where
    no_refusal : (s : Status) → IsDecided s → (s ≡ ends.Memory → ⊥) → IsRefusal s → ⊥
    no_refusal ends.Memory d f r = f refl
    no_refusal ends.Done d f r = r
    no_refusal ends.DiskFault d f r = r
    no_refusal (ends.NumbersSpent region last) d f r = r
    no_refusal ends.SinkFault d f r = d
    no_refusal (ends.Damaged damage) d f r = d
    no_refusal ends.Usage d f r = d
    no_refusal (ends.Script line' why) d f r = d
    no_refusal ends.SourceFault d f r = d
    no_refusal (ends.NotEmpty name) d f r = d
    no_refusal (ends.NoPosition number entries) d f r = d
unfinished_refusal status result had has cut may found (inr (inl memory)) refused is text line =
    let said : Some refused_memory ≡ Some text = sym (ap refusal_line memory) ∙ line in
    let same : refused_memory ≡ text = cc said in
    subst (λ (t : List ℕ). Prints had has t cut) same (refused memory)
unfinished_refusal status result had has cut may found (inr (inr sink)) refused is text line = absurd (subst IsRefusal sink is)

pub unfinished_end : (status result : Status) → IsDecided status → IsPrintedAs status result → IsClosedEnd result
unfinished_end status result may (inl same) = subst IsClosedEnd (sym same) (closed_end status may)
  where
    closed_end : (s : Status) → IsDecided s → IsClosedEnd s
    closed_end ends.Memory d = tt
    closed_end ends.Done d = tt
    closed_end ends.DiskFault d = tt
    closed_end (ends.NumbersSpent region last) d = tt
    closed_end ends.SinkFault d = absurd d
    closed_end (ends.Damaged damage) d = absurd d
    closed_end ends.Usage d = absurd d
    closed_end (ends.Script line why) d = absurd d
    closed_end ends.SourceFault d = absurd d
    closed_end (ends.NotEmpty name) d = absurd d
    closed_end (ends.NoPosition number entries) d = absurd d
unfinished_end status result may (inr (inl memory)) = subst IsClosedEnd (sym memory) tt
unfinished_end status result may (inr (inr sink)) = subst IsClosedEnd (sym sink) tt

pub unfinished_fault : (status result : Status) → IsPrintedAs status result → result ≡ ends.DiskFault → status ≢ ends.DiskFault → ⊥
unfinished_fault status result (inl same) is other = other (sym same ∙ is)
unfinished_fault status result (inr (inl memory)) is other = let no : ends.Memory ≡ ends.DiskFault = sym memory ∙ is in absurd cc
unfinished_fault status result (inr (inr sink)) is other = let no : ends.SinkFault ≡ ends.DiskFault = sym sink ∙ is in absurd cc

pub unfinished_complete : (status result : Status) (options : LoadOptions) (before left : DiskView) → IsPrintedAs status result → IsDecided status → (status ≡ ends.Done → ⊥) → (status ≡ ends.Memory → ⊥) → HasEnded options before left status
    → status ≢ ends.DiskFault → (result ≡ ends.SinkFault → ⊥) → IsComplete result
unfinished_complete status result options before left as_said may undone found ended unbroken no_sink = absurd (none status may undone found unbroken ended)
  where
    none : (s : Status) → IsDecided s → (s ≡ ends.Done → ⊥) → (s ≡ ends.Memory → ⊥) → s ≢ ends.DiskFault → HasEnded options before left s → ⊥
    none ends.Memory d undone' found' whole e = found' refl
    none ends.Done d undone' found' whole e = undone' refl
    none ends.DiskFault d undone' found' whole e = whole refl
    none (ends.NumbersSpent region last) d undone' found' whole e = none_spent_here options before left region last e
    none ends.SinkFault d undone' found' whole e = d
    none (ends.Damaged damage) d undone' found' whole e = d
    none ends.Usage d undone' found' whole e = d
    none (ends.Script line why) d undone' found' whole e = d
    none ends.SourceFault d undone' found' whole e = d
    none (ends.NotEmpty name) d undone' found' whole e = d
    none (ends.NoPosition number entries) d undone' found' whole e = d

-- ---- a line alone

pub memory_ends : (result : Status) (options : LoadOptions) (script had has : List ℕ) (before after : DiskView) (rose cut : Type 0) → result ≡ ends.Memory → KeepsFound before after → Prints had has refused_memory cut
    → EndsLoad result options (invocation script before after had has) rose cut
memory_ends result options script had has before after rose cut is keeps printed =
    subst (λ (s : Status). EndsLoad s options (invocation script before after had has) rose cut) (sym is) (refused_so had has refused_memory cut printed, keeps)

pub reading_closed : (status : Status) → IsReadingEnd status → IsClosedEnd status
reading_closed ends.Done may = tt
reading_closed ends.Memory may = tt
reading_closed ends.DiskFault may = tt
reading_closed ends.SinkFault may = tt
reading_closed (ends.Damaged damage) may = tt
reading_closed ends.Usage may = absurd may
reading_closed (ends.Script line why) may = absurd may
reading_closed ends.SourceFault may = absurd may
reading_closed (ends.NumbersSpent region last) may = absurd may
reading_closed (ends.NotEmpty name) may = absurd may
reading_closed (ends.NoPosition number entries) may = absurd may
