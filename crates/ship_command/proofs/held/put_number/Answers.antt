use Rattle.std.proofs.Common.{◌≡◌, rules, true, refl}
use Rattle.std.specs.Fmt.{decimal}
use Rattle.ship_command.proofs.Cuts.{cut_here, cut_then, cut_as}
use Rattle.ship_command.proofs.held.put_number.Goals as goal

pub returns-in_err-put-clause-cut : goal.returns-in_err-put-clause-cut
returns-in_err-put-clause-cut g c told err = cut_here c.args.words.now (decimal c.args.n) (c.in_err-put.ensures.cut told (refl {a = true}))

pub returns-clause-cut : goal.returns-clause-cut
returns-clause-cut g c told err =
    let is : c.as_bytes.result.now ≡ decimal c.args.n = search rules in
    cut_then c.args.words.now (decimal c.args.n) (c.in_ok-put.ensures.ok told) (cut_as is (c.put-2.ensures.cut told err))
