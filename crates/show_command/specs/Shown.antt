-- The command that shows what a log holds.
use Rattle.std.specs.Prelude.{◌≡◌, ℕ, ◌⊎◌, List, [], Option}
use Rattle.log_model.specs.Entry.{Entry}
use Rattle.log_model.specs.Files.{IsAbsent}
use Rattle.script_model.specs.Outputs.{show_text}
use Rattle.command_base.specs.Invocation.{Invocation}
use Rattle.command_base.specs.LogFiles.{log_name, IsFound}
use Rattle.command_base.specs.Ends.{Effects, EndsAs, reads}
use Rattle.command_base.specs.declared.status.Status.{Status}

-- The content of log 1's entries was printed, or nothing where it isn't there.
abbrev pub ShowDone : Invocation → List ℕ → Type 0
ShowDone o text = ((es : List Entry) × (ended : Option ℕ) × IsFound o.before.files (log_name 1) es ended × (text ≡ show_text es))
    ⊎ (IsAbsent o.before.files (log_name 1) × (text ≡ show_text []))

-- what stands with a text that the command printed
abbrev pub shows : Invocation → Effects
shows o = reads (λ text. ShowDone o text) o

-- what stands with each status of the command
abbrev pub EndsShow : Status → Invocation → Type 0 → Type 0 → Type 0
EndsShow status o rose sank = EndsAs (shows o) status rose sank o.taken
