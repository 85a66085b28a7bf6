-- How the command ends.
use Rattle.std.proofs.Common.{◌≡◌, ◌≢◌, ℕ, List, [], ◌∷◌, Some, Err, inl, inr, refl, sym, ap, subst, arith}
use Rattle.log_model.specs.declared.damage.Damage.{Damage}
use Rattle.log_model.specs.Files.{Files}
use Rattle.log_model.specs.Damage.{IsDamage}
use Rattle.disk_images.specs.Crash.{DiskView}
use Rattle.found_files.specs.declared.refusal.SplitRefusal.{SplitRefusal}
use Rattle.found_files.specs.declared.refusal.SplitRefusal.TheVariants as refusals
use Rattle.script_model.specs.Outputs.{refused_memory, refused_disk}
use Rattle.command_base.specs.Invocation.{invocation}
use Rattle.command_base.specs.Prints.{Prints}
use Rattle.found_files.specs.Refusal.{IfDamage}
use Rattle.region_replay.specs.Ready.{Found}
use Rattle.command_base.specs.Status.{refusal_line, IfDamaged, IsDamageOf, IsPrintEnd, IsReadingEnd, IsOrEarlier}
use Rattle.command_base.specs.Ends.{Done}
use Rattle.command_base.specs.declared.status.Status.{Status}
use Rattle.command_base.specs.declared.status.Status.TheVariants as ends
use Rattle.command_base.proofs.Endings.{taken_whole, taken_begins, refused_so}
use Rattle.recover_command.specs.Recovered.{RecoverDone, MayOpenAgain, EndsRecover}
use Rattle.recover_command.specs.Refusals.{refused_as}
use Rattle.recover_command.proofs.OneDamage.{one_told}

pub refused_ends : (refusal : SplitRefusal) (script had has : List ℕ) (v w : DiskView) (rose cut : Type 0) → MayOpenAgain (invocation script v w had has)
    → ((text : List ℕ) → refusal_line (refused_as refusal) ≡ Some text → Prints had has text cut) → EndsRecover (refused_as refusal) (invocation script v w had has) rose cut
refused_ends refusals.Memory script had has v w rose cut again printed = (refused_so had has refused_memory cut (printed refused_memory refl), again)
refused_ends refusals.DiskFault script had has v w rose cut again printed = inr (refused_so had has refused_disk cut (printed refused_disk refl), again)
refused_ends (refusals.Damaged damage) script had has v w rose cut again printed = tt

pub printed_ends : (status : Status) (text script had has : List ℕ) (v w : DiskView) (rose cut : Type 0) → IsPrintEnd status → RecoverDone (invocation script v w had has) text
    → MayOpenAgain (invocation script v w had has) → (status ≢ ends.Memory → Prints had has text (status ≡ ends.SinkFault)) → (status ≡ ends.Memory → Prints had has refused_memory cut)
    → EndsRecover status (invocation script v w had has) rose cut
printed_ends ends.Done text script had has v w rose cut may done again printed refused =
    subst (λ (t : List ℕ). RecoverDone (invocation script v w had has) t) (sym (taken_whole had has text _ (printed (λ e. absurd cc)) (λ e. absurd cc))) done
printed_ends ends.Memory text script had has v w rose cut may done again printed refused = (refused_so had has refused_memory cut (refused refl), again)
printed_ends ends.SinkFault text script had has v w rose cut may done again printed refused = (text, taken_begins had has text _ (printed (λ e. absurd cc)), Done done)
printed_ends ends.DiskFault text script had has v w rose cut may done again printed refused = absurd may
printed_ends (ends.Damaged damage) text script had has v w rose cut may done again printed refused = absurd may
printed_ends ends.Usage text script had has v w rose cut may done again printed refused = absurd may
printed_ends (ends.Script line why) text script had has v w rose cut may done again printed refused = absurd may
printed_ends ends.SourceFault text script had has v w rose cut may done again printed refused = absurd may
printed_ends (ends.NumbersSpent region last) text script had has v w rose cut may done again printed refused = absurd may
printed_ends (ends.NotEmpty name) text script had has v w rose cut may done again printed refused = absurd may
printed_ends (ends.NoPosition number entries) text script had has v w rose cut may done again printed refused = absurd may

-- ---- what a refusal says

pub reads_refused : (refusal : SplitRefusal) → IsReadingEnd (refused_as refusal)
reads_refused refusals.Memory = tt
reads_refused refusals.DiskFault = tt
reads_refused (refusals.Damaged damage) = tt

pub fault_refused : (refusal : SplitRefusal) → refused_as refusal ≡ ends.DiskFault → refusal ≡ refusals.DiskFault
fault_refused refusals.Memory e = absurd cc
fault_refused refusals.DiskFault e = refl
fault_refused (refusals.Damaged damage) e = absurd cc

pub leaves_refused : (refusal : SplitRefusal) (Q : Type 0) (D : Damage → Type 0) → ((d : Damage) → D d → Q) → IfDamage {T = List Found} (Err refusal) D → IfDamaged (refused_as refusal) Q
leaves_refused refusals.Memory Q D then h = tt
leaves_refused refusals.DiskFault Q D then h = tt
leaves_refused (refusals.Damaged damage) Q D then h = then damage h

pub damage_refused : (refusal : SplitRefusal) (D U E : Damage → Type 0) → ((d : Damage) → D d → U d → E d) → IfDamage {T = List Found} (Err refusal) D → IfDamage {T = List Found} (Err refusal) U
    → IsDamageOf (refused_as refusal) E
damage_refused refusals.Memory D U E then h u = tt
damage_refused refusals.DiskFault D U E then h u = tt
damage_refused (refusals.Damaged damage) D U E then h u = then damage h u

pub damaged_refused : (refusal : SplitRefusal) (files : Files) (D : Damage → Type 0) (damage : Damage) → ((d : Damage) → D d → IsDamage files d) → IfDamage {T = List Found} (Err refusal) D → IsDamage files damage
    → IsOrEarlier (refused_as refusal) (ends.Damaged damage) (ends.DiskFault ∷ [])
damaged_refused refusals.Memory files D damage then h is = inr (0, omega arith, refl)
damaged_refused refusals.DiskFault files D damage then h is = inr (1, omega arith, refl)
damaged_refused (refusals.Damaged d) files D damage then h is = inl (ap ends.Damaged (one_told files d damage (then d h) is))

-- printing tells no damage
pub print_leaves : (status : Status) (Q : Type 0) → IsPrintEnd status → IfDamaged status Q
print_leaves ends.Done Q may = tt
print_leaves ends.Memory Q may = tt
print_leaves ends.SinkFault Q may = tt
print_leaves ends.DiskFault Q may = absurd may
print_leaves (ends.Damaged damage) Q may = absurd may
print_leaves ends.Usage Q may = absurd may
print_leaves (ends.Script line why) Q may = absurd may
print_leaves ends.SourceFault Q may = absurd may
print_leaves (ends.NumbersSpent region last) Q may = absurd may
print_leaves (ends.NotEmpty name) Q may = absurd may
print_leaves (ends.NoPosition number entries) Q may = absurd may
