-- The command that prints the entries of one log.
use Rattle.std.specs.Prelude.{◌≡◌, ℕ, ◌⊎◌, List, [], ◌∷◌, ◌++◌, Option, codes}
use Rattle.log_model.specs.declared.name.Name.{Name}
use Rattle.log_model.specs.declared.name.NameKind.TheVariants as kinds
use Rattle.log_model.specs.declared.damage.Damage.{Damage}
use Rattle.log_model.specs.declared.damage.Damage.TheVariants.{Bytes, Two}
use Rattle.log_model.specs.Entry.{Entry}
use Rattle.log_model.specs.Files.{Files, IsAbsent}
use Rattle.script_model.specs.Report.{line}
use Rattle.script_model.specs.Outputs.{dump_text, end_line}
use Rattle.wal_dump.specs.Kinds.{kind_word}
use Rattle.command_base.specs.Invocation.{Invocation}
use Rattle.command_base.specs.LogFiles.{log_name, IsFound, IsDamagedLog}
use Rattle.command_base.specs.Ends.{Effects, EndsAs, reads}
use Rattle.command_base.specs.declared.status.Status.{Status}

abbrev pub old_name : ℕ → Name
old_name n = record { kind = kinds.Old; region = 0; number = n }

-- the file that is printed for a number: the log, or the old log where there is no such log
abbrev pub IsDumped : Files → ℕ → Name → Type 0
IsDumped files n name = (name ≡ log_name n) ⊎ (IsAbsent files (log_name n) × (name ≡ old_name n))

-- where neither is there
unfoldable pub none_text : List ℕ
none_text = line (codes "none" ∷ []) ++ end_line 0

-- The entries of the file were printed as they stand, or that there is none.
abbrev pub DumpDone : ℕ → Invocation → List ℕ → Type 0
DumpDone n o text =
    ((name : Name) × (es : List Entry) × (ended : Option ℕ) × IsDumped o.before.files n name × IsFound o.before.files name es ended × (text ≡ dump_text (kind_word name.kind) n es ended))
    ⊎ (IsAbsent o.before.files (log_name n) × IsAbsent o.before.files (old_name n) × (text ≡ none_text))

-- what stands with a text that the command printed
abbrev pub dumps : ℕ → Invocation → Effects
dumps n o = reads (λ text. DumpDone n o text) o

-- what stands with each status of the command
abbrev pub EndsDump : ℕ → Status → Invocation → Type 0 → Type 0 → Type 0
EndsDump n status o rose sank = EndsAs (dumps n o) status rose sank o.taken

-- it is the file that is printed which is damaged there
abbrev pub IsDumpDamage : ℕ → Files → Damage → Type 0
IsDumpDamage n files (Bytes name at) = IsDumped files n name × IsDamagedLog files name at
IsDumpDamage n files (Two first second region number) = ⊥
