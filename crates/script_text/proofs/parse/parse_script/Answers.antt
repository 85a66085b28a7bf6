use Rattle.std.proofs.Common.{◌∙◌, ap, arith}
use Rattle.script_model.specs.Script.{Said, said_by}
use Rattle.script_model.specs.Text.{lines_of}
use Rattle.script_text.proofs.FewLaws.{few_calls}
use Rattle.script_text.proofs.parse.parse_script.Goals as goal

pub into_script-requires-clause-few : goal.into_script-requires-clause-few
into_script-requires-clause-few c =
    few_calls c.args.bytes.now _ (c.in_ok-all_lines.ensures.said ∙ ap (λ (said : Said). said_by said (lines_of c.args.bytes.now)) c.new-state.ensures) (omega (arith, c.if-bytes-gt16777216.false))
