-- How the command ends.
use Rattle.std.proofs.Common.{◌≡◌, ◌≢◌, ◌⊎◌, inl, inr, ℕ, List, [], ◌∷◌, Some, None, refl, sym, ap, ◌∙◌, subst, arith}
use Rattle.log_model.specs.Files.{Files}
use Rattle.log_model.specs.declared.damage.Damage.{Damage}
use Rattle.disk_images.specs.Crash.{DiskView, IsImageNow}
use Rattle.found_files.specs.declared.refusal.SplitRefusal.{SplitRefusal}
use Rattle.found_files.specs.declared.refusal.SplitRefusal.TheVariants as refusals
use Rattle.script_model.specs.Outputs.{refused_memory, refused_disk}
use Rattle.store_compact.specs.declared.kind.CompactKind.{CompactKind}
use Rattle.command_base.specs.Invocation.{invocation}
use Rattle.command_base.specs.Prints.{Prints}
use Rattle.command_base.specs.Status.{refusal_line, IfDamaged, IsDamageOf, IsReadingEnd, IsOrEarlier}
use Rattle.command_base.specs.Ends.{Done}
use Rattle.command_base.specs.declared.status.Status.{Status}
use Rattle.command_base.specs.declared.status.Status.TheVariants as ends
use Rattle.command_base.proofs.Endings.{taken_whole, taken_begins, refused_so}
use Rattle.recover_command.specs.Recovered.{MayOpenAgain}
use Rattle.recover_command.specs.Refusals.{refused_as}
use Rattle.compact_command.specs.declared.compaction.Compaction.{Compaction}
use Rattle.compact_command.specs.Compacted.{CompactDone, MayCompactAgain, EndsCompact}
use Rattle.compact_command.specs.Refusals.{IsOpeningRefusal}

-- ---- what came of it is printed

module _ (status : Status) (printed : (status ≡ ends.Done) ⊎ (status ≡ ends.SinkFault)) where
  -- what holds of both statuses
  of_both : (P : Status → Type 0) → P ends.Done → P ends.SinkFault → P status
  of_both P done sank = elim printed as (λ _. P status) [
    | inl is ↦ subst P (sym is) done
    | inr is ↦ subst P (sym is) sank
  ]

  pub printed_ends : (r : ℕ) (kind : CompactKind) (text script had has : List ℕ) (v w : DiskView) (rose cut : Type 0) → CompactDone r kind (invocation script v w had has) text
      → Prints had has text (status ≡ ends.SinkFault) → EndsCompact r kind status (invocation script v w had has) rose cut
  printed_ends r kind text script had has v w rose cut done prints = elim printed as (λ _. EndsCompact r kind status (invocation script v w had has) rose cut) [
    | inl is ↦ (
        let whole = taken_whole had has text (status ≡ ends.SinkFault) prints (λ sank. absurd (cc (sym is ∙ sank))) in
        subst (λ (s : Status). EndsCompact r kind s (invocation script v w had has) rose cut) (sym is) (subst (λ (t : List ℕ). CompactDone r kind (invocation script v w had has) t) (sym whole) done))
    | inr is ↦ subst (λ (s : Status). EndsCompact r kind s (invocation script v w had has) rose cut) (sym is) (text, taken_begins had has text (status ≡ ends.SinkFault) prints, Done done)
  ]

  pub no_line : (P : List ℕ → Type 0) (text : List ℕ) → refusal_line status ≡ Some text → P text
  no_line P text is = absurd (of_both (λ s. refusal_line s ≡ Some text → ⊥) (λ none. cc (none)) (λ none. cc (none)) is)

  pub printed_reads : IsReadingEnd status
  printed_reads = of_both IsReadingEnd tt tt

  pub printed_damage : (P : Damage → Type 0) → IsDamageOf status P
  printed_damage P = of_both (λ s. IsDamageOf s P) tt tt

  pub printed_leaves : (Q : Type 0) → IfDamaged status Q
  printed_leaves Q = of_both (λ s. IfDamaged s Q) tt tt

  pub no_fault : status ≡ ends.DiskFault → ⊥
  no_fault = of_both (λ s. s ≡ ends.DiskFault → ⊥) (λ e. cc (e)) (λ e. cc (e))

-- ---- a line that refuses

pub refused_ends : (status : Status) (r : ℕ) (kind : CompactKind) (script had has : List ℕ) (v w : DiskView) (rose cut : Type 0) → IsOpeningRefusal status
    → (status ≡ ends.Memory → MayOpenAgain (invocation script v w had has)) → MayCompactAgain r kind (invocation script v w had has)
    → ((text : List ℕ) → refusal_line status ≡ Some text → Prints had has text cut) → EndsCompact r kind status (invocation script v w had has) rose cut
refused_ends ends.Memory r kind script had has v w rose cut may opened again printed = (refused_so had has refused_memory cut (printed refused_memory refl), opened refl)
refused_ends ends.DiskFault r kind script had has v w rose cut may opened again printed = inr (refused_so had has refused_disk cut (printed refused_disk refl), again)
refused_ends (ends.Damaged damage) r kind script had has v w rose cut may opened again printed = tt
refused_ends ends.Done r kind script had has v w rose cut may opened again printed = absurd may
refused_ends ends.SinkFault r kind script had has v w rose cut may opened again printed = absurd may
refused_ends ends.Usage r kind script had has v w rose cut may opened again printed = absurd may
refused_ends (ends.Script line why) r kind script had has v w rose cut may opened again printed = absurd may
refused_ends ends.SourceFault r kind script had has v w rose cut may opened again printed = absurd may
refused_ends (ends.NumbersSpent region last) r kind script had has v w rose cut may opened again printed = absurd may
refused_ends (ends.NotEmpty name) r kind script had has v w rose cut may opened again printed = absurd may
refused_ends (ends.NoPosition file entries) r kind script had has v w rose cut may opened again printed = absurd may

pub refused_reads : (status : Status) → IsOpeningRefusal status → IsReadingEnd status
refused_reads ends.Memory may = tt
refused_reads ends.DiskFault may = tt
refused_reads (ends.Damaged damage) may = tt
refused_reads ends.Done may = absurd may
refused_reads ends.SinkFault may = absurd may
refused_reads ends.Usage may = absurd may
refused_reads (ends.Script line why) may = absurd may
refused_reads ends.SourceFault may = absurd may
refused_reads (ends.NumbersSpent region last) may = absurd may
refused_reads (ends.NotEmpty name) may = absurd may
refused_reads (ends.NoPosition file entries) may = absurd may

pub no_sink : (status : Status) → IsOpeningRefusal status → status ≡ ends.SinkFault → ⊥
no_sink status may is = subst IsOpeningRefusal is may

-- ---- the statuses of an opening

pub opening_refused : (refusal : SplitRefusal) → IsOpeningRefusal (refused_as refusal)
opening_refused refusals.Memory = tt
opening_refused refusals.DiskFault = tt
opening_refused (refusals.Damaged damage) = tt

pub memory_refused : (refusal : SplitRefusal) → refused_as refusal ≡ ends.Memory → refusal ≡ refusals.Memory
memory_refused refusals.Memory e = refl
memory_refused refusals.DiskFault e = absurd cc
memory_refused (refusals.Damaged damage) e = absurd cc
