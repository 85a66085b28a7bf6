use Rattle.std.proofs.Common.{◌++◌, codes, rules, true, refl}
use Rattle.script_model.specs.Text.{printed}
use Rattle.ship_command.proofs.Cuts.{cut_here, cut_then, cut_as, table_is}
use Rattle.ship_command.proofs.entries.put_table.Goals as goal

pub returns-in_err-put-clause-cut : goal.returns-in_err-put-clause-cut
returns-in_err-put-clause-cut g c told err =
    cut_as (table_is c.args.name.now (search rules))
    (cut_here (codes "table ") (printed c.args.name.now ++ codes "\n") (c.in_err-put.ensures.cut told (refl {a = true})))

pub returns-in_err-put_token-clause-cut : goal.returns-in_err-put_token-clause-cut
returns-in_err-put_token-clause-cut g c told err =
    cut_as (table_is c.args.name.now (search rules))
    (cut_then (codes "table ") (printed c.args.name.now ++ codes "\n") (c.in_ok-put.ensures.ok told)
    (cut_here (printed c.args.name.now) (codes "\n") (c.in_err-put_token.ensures.cut told (refl {a = true}))))

pub returns-clause-cut : goal.returns-clause-cut
returns-clause-cut g c told err =
    cut_as (table_is c.args.name.now (search rules))
    (cut_then (codes "table ") (printed c.args.name.now ++ codes "\n") (c.in_ok-put.ensures.ok told)
    (cut_then (printed c.args.name.now) (codes "\n") (c.in_ok-put_token.ensures.ok told) (c.put-2.ensures.cut told err)))
