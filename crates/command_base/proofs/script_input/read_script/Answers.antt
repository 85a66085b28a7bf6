use Rattle.std.proofs.Common.{subst, arith, ◌∙◌, ap, ℕ, Option}
use Rattle.script_model.specs.Calls.{Says}
use Rattle.script_model.specs.Fields.{Why}
use Rattle.script_model.specs.Script.{script_fault}
use Rattle.script_text.specs.Why.{IsLineFault}
use Rattle.command_base.proofs.ReadScript.{read_says, read_fault}
use Rattle.command_base.proofs.script_input.read_script.Goals as goal

pub returns-in-Ok-parse_script-clause-says : goal.returns-in-Ok-parse_script-clause-says
returns-in-Ok-parse_script-clause-says g c told =
    read_says c.args.command 16777217 (g.S.Source.left c.args.source.now) c.in-Ok-parse_script.script (omega arith)
    (subst (λ text. Says c.args.command text c.in-Ok-parse_script.script) (c.deref.ensures.value ∙ c.in-Ok.ensures.bytes told) c.in-Ok-parse_script.ensures.ok)

pub returns-clause-script : goal.returns-clause-script
returns-clause-script g c told =
    c.status_of.ensures.fault (script_fault c.args.command (g.S.Source.left c.args.source.now))
    (subst (λ (fault : Option (ℕ × Why)). IsLineFault c.in-Err.refusal fault)
    (ap (script_fault c.args.command) (c.deref.ensures.value ∙ c.in-Ok.ensures.bytes told) ∙ read_fault c.args.command 16777217 (g.S.Source.left c.args.source.now) (omega arith))
    c.in-Err.ensures.refused)
