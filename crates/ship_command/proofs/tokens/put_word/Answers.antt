use Rattle.std.proofs.Common.{◌∷◌, [], true, refl}
use Rattle.script_model.specs.Text.{printed}
use Rattle.ship_command.proofs.Cuts.{cut_here, cut_then}
use Rattle.ship_command.proofs.tokens.put_word.Goals as goal

pub returns-in_err-put-clause-cut : goal.returns-in_err-put-clause-cut
returns-in_err-put-clause-cut g c told err = cut_here (32 ∷ []) (printed c.args.bytes.now) (c.in_err-put.ensures.cut told (refl {a = true}))

pub returns-clause-cut : goal.returns-clause-cut
returns-clause-cut g c told err = cut_then (32 ∷ []) (printed c.args.bytes.now) (c.in_ok-put.ensures.ok told) (c.put_token.ensures.cut told err)
