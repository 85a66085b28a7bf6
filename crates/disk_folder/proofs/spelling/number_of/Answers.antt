use Rattle.std.proofs.Common.{rules, ◌≡◌, Ok}
use Rattle.std.proofs.lemmas.Fmt.{parse-decimal}
use Rattle.disk_folder.proofs.spelling.number_of.Goals as goal

pub returns-in_err-number-clause-every : goal.returns-in_err-number-clause-every
returns-in_err-number-clause-every c n small is =
    let read : c.parse.result ≡ Ok n = parse-decimal 64 n c.args.digits.now c.parse.result small small is c.parse.ensures.value.0 in
    search (rules, read)

pub returns-then-eq-clause-every : goal.returns-then-eq-clause-every
returns-then-eq-clause-every c n small is =
    let read : c.parse.result ≡ Ok n = parse-decimal 64 n c.args.digits.now c.parse.result small small is c.parse.ensures.value.0 in
    search (rules, read)

pub returns-else-eq-clause-every : goal.returns-else-eq-clause-every
returns-else-eq-clause-every c n small is =
    let read : c.parse.result ≡ Ok n = parse-decimal 64 n c.args.digits.now c.parse.result small small is c.parse.ensures.value.0 in
    search (rules, read)
