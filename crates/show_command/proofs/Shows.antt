-- What is shown of the entries that were found.
use Rattle.std.proofs.Common.{inl, inr, ap, refl, List, ℕ}
use Rattle.log_model.specs.Entry.{Entry}
use Rattle.disk_images.specs.Crash.{DiskView}
use Rattle.script_model.specs.Outputs.{show_text}
use Rattle.command_base.specs.Invocation.{invocation}
use Rattle.show_command.specs.Shown.{ShowDone}
use Rattle.show_command.specs.Parts.{HasLogEntries}

pub shown : (es : List Entry) (script : List ℕ) (before after : DiskView) (had has : List ℕ) → HasLogEntries before.files es → ShowDone (invocation script before after had has) (show_text es)
shown es script before after had has (inl (ended, found)) = inl (es, ended, found, refl)
shown es script before after had has (inr (absent, none)) = inr (absent, ap show_text none)
