use Rattle.std.proofs.Common.{rules}
use Rattle.disk_folder.proofs.Dashes.{numbers_round}
use Rattle.disk_folder.proofs.spelling.pair_of.Goals as goal

pub returns-in_err-number_of-clause-every : goal.returns-in_err-number_of-clause-every
returns-in_err-number_of-clause-every c r n small small2 is =
    let round = numbers_round c.args.numbers.now c.in_ok-first.first.now c.in_ok-first.second.now r n small small2 (search rules) is in
    search (rules, c.number_of.ensures.every r small round.0)

pub returns-in_err-number_of-2-clause-every : goal.returns-in_err-number_of-2-clause-every
returns-in_err-number_of-2-clause-every c r n small small2 is =
    let round = numbers_round c.args.numbers.now c.in_ok-first.first.now c.in_ok-first.second.now r n small small2 (search rules) is in
    search (rules, c.number_of-2.ensures.every n small2 round.1)

pub returns-clause-every : goal.returns-clause-every
returns-clause-every c r n small small2 is =
    let round = numbers_round c.args.numbers.now c.in_ok-first.first.now c.in_ok-first.second.now r n small small2 (search rules) is in
    search (rules, c.number_of.ensures.every r small round.0, c.number_of-2.ensures.every n small2 round.1)
