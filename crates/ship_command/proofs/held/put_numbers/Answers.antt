use Rattle.std.proofs.Common.{◌∷◌, ◌++◌, true, refl, append_assoc}
use Rattle.std.specs.Fmt.{decimal}
use Rattle.ship_command.proofs.Cuts.{cut_here, cut_then, cut_as}
use Rattle.ship_command.proofs.held.put_numbers.Goals as goal

pub returns-in_err-put_number-clause-cut : goal.returns-in_err-put_number-clause-cut
returns-in_err-put_number-clause-cut g c told err =
    cut_as (append_assoc c.args.words.now (decimal c.args.n) (32 ∷ decimal c.args.m))
    (cut_here (c.args.words.now ++ decimal c.args.n) (32 ∷ decimal c.args.m) (c.in_err-put_number.ensures.cut told (refl {a = true})))

pub returns-clause-cut : goal.returns-clause-cut
returns-clause-cut g c told err =
    cut_as (append_assoc c.args.words.now (decimal c.args.n) (32 ∷ decimal c.args.m))
    (cut_then (c.args.words.now ++ decimal c.args.n) (32 ∷ decimal c.args.m) (c.in_ok-put_number.ensures.ok told) (c.put_number-2.ensures.cut told err))
