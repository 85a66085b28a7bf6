-- Which file is found for a number, what is damaged of it, and what is printed.
use Rattle.std.specs.Fmt.{digits}
use Rattle.std.proofs.Common.{codes, ◌≡◌, ℕ, List, [], ◌∷◌, Option, Some, None, inl, inr, refl, sym, ap, subst, ◌∙◌, arith}
use Rattle.log_model.specs.declared.name.Name.{Name}
use Rattle.log_model.specs.declared.damage.Damage.TheVariants.{Bytes, Two}
use Rattle.log_model.specs.Entry.{Entry}
use Rattle.log_model.specs.Files.{Files}
use Rattle.disk_images.specs.Crash.{DiskView}
use Rattle.script_model.specs.Outputs.{dump_text}
use Rattle.script_model.specs.Report.{end_line}
use Rattle.wal_dump.specs.Kinds.{kind_word}
use Rattle.command_base.specs.Invocation.{invocation}
use Rattle.command_base.specs.LogFiles.{log_name, IsFound, IsDamagedLog, IsLogDamage, IsLogRefusal}
use Rattle.command_base.specs.Status.{IsDamageOf, IsOrEarlier}
use Rattle.command_base.specs.declared.status.Status.{Status}
use Rattle.command_base.specs.declared.status.Status.TheVariants as ends
use Rattle.dump_command.specs.Dumped.{none_text, IsDumped, DumpDone}
use Rattle.dump_command.specs.Found.{HasFound, IsOfNumber, found_text}
use Rattle.dump_command.specs.declared.command.Found.{Found}

none_some : {A : Type 0} (a : A) → None ≡ Some a → ⊥
none_some a e = absurd cc

-- ---- two looks

-- ---- what is damaged

-- the log was read, so nothing that is printed is damaged
pub no_damage : (u : Files) (n : ℕ) (name : Name) (at : ℕ) (es : List Entry) (ended : Option ℕ) → IsFound u (log_name n) es ended → ((at : ℕ) → IsDamagedLog u (log_name n) at → ⊥)
    → IsDumped u n name → IsDamagedLog u name at → ⊥
no_damage u n name at es ended found sound (inl is) d = sound at (subst (λ (m : Name). IsDamagedLog u m at) is d)
no_damage u n name at es ended found sound (inr other) d = none_some found.0 (sym other.0 ∙ found.1)

-- the reading of the log was refused
pub log_reported : (u : Files) (n : ℕ) (name : Name) (at : ℕ) (status : Status) → IsLogRefusal status → IsDamageOf status (IsLogDamage u (log_name n))
    → ((at : ℕ) → IsDamagedLog u (log_name n) at → IsOrEarlier status (ends.Damaged (Bytes (log_name n) at)) (ends.DiskFault ∷ []))
    → IsDumped u n name → IsDamagedLog u name at → IsOrEarlier status (ends.Damaged (Bytes name at)) (ends.DiskFault ∷ [])
log_reported u n name at status may damage told (inl is) d =
    subst (λ (m : Name). IsOrEarlier status (ends.Damaged (Bytes m at)) (ends.DiskFault ∷ [])) (sym is) (told at (subst (λ (m : Name). IsDamagedLog u m at) is d))
log_reported u n name at ends.Memory may damage told (inr other) d = inr (0, omega arith, refl)
log_reported u n name at ends.DiskFault may damage told (inr other) d = inr (1, omega arith, refl)
log_reported u n name at (ends.Damaged (Bytes m k)) may damage told (inr other) d =
    let there = subst (λ (x : Name). IsDamagedLog u x k) damage.0 damage.1 in
    absurd (none_some there.0 (sym other.0 ∙ there.1))
log_reported u n name at (ends.Damaged (Two first second region number)) may damage told (inr other) d = absurd damage
log_reported u n name at ends.Done may damage told (inr other) d = absurd may
log_reported u n name at ends.Usage may damage told (inr other) d = absurd may
log_reported u n name at (ends.Script line why) may damage told (inr other) d = absurd may
log_reported u n name at ends.SourceFault may damage told (inr other) d = absurd may
log_reported u n name at ends.SinkFault may damage told (inr other) d = absurd may
log_reported u n name at (ends.NumbersSpent region last) may damage told (inr other) d = absurd may
log_reported u n name at (ends.NotEmpty m) may damage told (inr other) d = absurd may
log_reported u n name at (ends.NoPosition number entries) may damage told (inr other) d = absurd may

-- ---- what is printed

pub dumped : (n : ℕ) (found : Option Found) (script : List ℕ) (before after : DiskView) (had has : List ℕ) → HasFound before.files n found → IsOfNumber n found
    → DumpDone n (invocation script before after had has) (found_text found)
dumped n None script before after had has none of = inr (none.0, none.1, refl)
dumped n (Some f) script before after had has found of =
    inl (f.name, f.text.entries, f.text.ended, found.0, found.1, ap (λ (k : ℕ). dump_text (kind_word f.name.kind) k f.text.entries f.text.ended) of.1)

pub none_bytes : none_text ≡ codes "none\nend 0\n"
unfolding none_text end_line digits
none_bytes = refl
