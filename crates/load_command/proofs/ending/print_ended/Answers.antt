use Rattle.std.proofs.Common.{◌≡◌, sym, ◌∙◌, inl, inr}
use Rattle.command_base.specs.declared.status.Status.TheVariants.{Memory, SinkFault}
use Rattle.load_command.proofs.ending.print_ended.Goals as goal

pub returns-in-Ok-clause-refusal : goal.returns-in-Ok-clause-refusal
returns-in-Ok-clause-refusal g c told is = elim c.emit.ensures.either [
  | inl same ↦ absurd (c.requires.found (sym same ∙ is))
  | inr sink ↦ let no : SinkFault ≡ Memory = sym sink ∙ is in absurd cc
]
