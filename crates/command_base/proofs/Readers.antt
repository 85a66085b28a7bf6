-- Commands that only read the store: what they find, and what stands when they have ended.
use Rattle.std.proofs.Common.{◌≡◌, ◌≢◌, ℕ, List, Option, Some, None, refl, sym, subst, inr, ◌∙◌}
use Rattle.log_model.specs.declared.name.Name.{Name}
use Rattle.log_model.specs.LogText.{IsDamaged}
use Rattle.log_model.specs.Files.{Files, Reads, key_of, size_of}
use Rattle.disk_images.specs.Crash.{DiskView}
use Rattle.disk_images.specs.Calls.{Looks}
use Rattle.file_base.specs.Looking.{OnlyLooks}
use Rattle.script_model.specs.Outputs.{refused_memory, refused_disk}
use Rattle.command_base.specs.Invocation.{invocation, IsUnchanged, KeepsImages, taken_of}
use Rattle.command_base.specs.Prints.{Prints}
use Rattle.command_base.specs.LogFiles.{IsDamagedLog, IsLogRefusal}
use Rattle.command_base.specs.Status.{refusal_line, IsPrintEnd}
use Rattle.command_base.specs.Ends.{EndsAs, Done, reads}
use Rattle.command_base.specs.declared.status.Status.{Status}
use Rattle.command_base.specs.declared.status.Status.TheVariants as ends
use Rattle.command_base.proofs.Endings.{taken_whole, taken_begins, refused_so, keeps_on, kept_looking}

-- ---- the disk

pub both_on : (n : ℕ) (x y z : DiskView) → Looks x y → OnlyLooks n y z → KeepsImages x z
both_on n x y z f g = keeps_on x y z (kept_looking x y f) ∣ (n, g.moments) ∣₁

-- a file with a size is there
pub sized : (found : Option (List ℕ)) (n : ℕ) → size_of found ≡ Some n → (c : List ℕ) × (found ≡ Some c)
sized None n e = absurd cc
sized (Some c) n e = (c, refl)

-- a file that reads as these bytes is damaged where they are
pub same_bytes : (files : Files) (name : Name) (at : ℕ) (bytes : List ℕ) → Reads files name bytes → IsDamagedLog files name at → IsDamaged (key_of name) bytes at
same_bytes files name at bytes reads (other, there, damaged) = subst (λ (c : List ℕ). IsDamaged (key_of name) c at) (some_same other bytes (sym there ∙ reads)) damaged
  where
    some_same : (a b : List ℕ) → Some a ≡ Some b → a ≡ b
    some_same a b e = cc

-- ---- the output

pub ends_refused : (P : List ℕ → Type 0) (status : Status) (script : List ℕ) (before after : DiskView) (had has : List ℕ) (rose cut : Type 0) → IsLogRefusal status → IsUnchanged before after
    → ((text : List ℕ) → refusal_line status ≡ Some text → Prints had has text cut) → EndsAs (reads P (invocation script before after had has)) status rose cut (taken_of had has)
ends_refused P ends.Memory script before after had has rose cut may same printed = (refused_so had has refused_memory cut (printed refused_memory refl), same)
ends_refused P ends.DiskFault script before after had has rose cut may same printed = inr (refused_so had has refused_disk cut (printed refused_disk refl), same)
ends_refused P (ends.Damaged damage) script before after had has rose cut may same printed = tt
ends_refused P ends.Done script before after had has rose cut may same printed = absurd may
ends_refused P ends.Usage script before after had has rose cut may same printed = absurd may
ends_refused P (ends.Script line why) script before after had has rose cut may same printed = absurd may
ends_refused P ends.SourceFault script before after had has rose cut may same printed = absurd may
ends_refused P ends.SinkFault script before after had has rose cut may same printed = absurd may
ends_refused P (ends.NumbersSpent region last) script before after had has rose cut may same printed = absurd may
ends_refused P (ends.NotEmpty name) script before after had has rose cut may same printed = absurd may
ends_refused P (ends.NoPosition number entries) script before after had has rose cut may same printed = absurd may

pub ends_printed : (P : List ℕ → Type 0) (status : Status) (text script : List ℕ) (before after : DiskView) (had has : List ℕ) (rose cut : Type 0) → IsPrintEnd status → P text → IsUnchanged before after
    → (status ≢ ends.Memory → Prints had has text (status ≡ ends.SinkFault)) → (status ≡ ends.Memory → Prints had has refused_memory cut)
    → EndsAs (reads P (invocation script before after had has)) status rose cut (taken_of had has)
ends_printed P ends.Done text script before after had has rose cut may is same printed refused =
    (subst P (sym (taken_whole had has text _ (printed (λ e. absurd cc)) (λ e. absurd cc))) is, same)
ends_printed P ends.Memory text script before after had has rose cut may is same printed refused = (refused_so had has refused_memory cut (refused refl), same)
ends_printed P ends.SinkFault text script before after had has rose cut may is same printed refused =
    (text, taken_begins had has text _ (printed (λ e. absurd cc)), Done (is, same))
ends_printed P ends.DiskFault text script before after had has rose cut may is same printed refused = absurd may
ends_printed P (ends.Damaged damage) text script before after had has rose cut may is same printed refused = absurd may
ends_printed P ends.Usage text script before after had has rose cut may is same printed refused = absurd may
ends_printed P (ends.Script line why) text script before after had has rose cut may is same printed refused = absurd may
ends_printed P ends.SourceFault text script before after had has rose cut may is same printed refused = absurd may
ends_printed P (ends.NumbersSpent region last) text script before after had has rose cut may is same printed refused = absurd may
ends_printed P (ends.NotEmpty name) text script before after had has rose cut may is same printed refused = absurd may
ends_printed P (ends.NoPosition number entries) text script before after had has rose cut may is same printed refused = absurd may

-- a line was printed where there is one, and none where the command was done or its output failed
pub lined : (status : Status) (had has : List ℕ) (cut : Type 0) → IsPrintEnd status → (status ≡ ends.Memory → Prints had has refused_memory cut)
    → (text : List ℕ) → refusal_line status ≡ Some text → Prints had has text cut
lined ends.Memory had has cut may printed text is =
    let same : refused_memory ≡ text = cc in
    subst (λ (t : List ℕ). Prints had has t cut) same (printed refl)
lined ends.Done had has cut may printed text is = absurd cc
lined ends.SinkFault had has cut may printed text is = absurd cc
lined ends.DiskFault had has cut may printed text is = absurd may
lined (ends.Damaged damage) had has cut may printed text is = absurd may
lined ends.Usage had has cut may printed text is = absurd may
lined (ends.Script line why) had has cut may printed text is = absurd may
lined ends.SourceFault had has cut may printed text is = absurd may
lined (ends.NumbersSpent region last) had has cut may printed text is = absurd may
lined (ends.NotEmpty name) had has cut may printed text is = absurd may
lined (ends.NoPosition number entries) had has cut may printed text is = absurd may
