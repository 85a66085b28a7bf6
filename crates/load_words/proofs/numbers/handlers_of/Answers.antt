use Rattle.std.proofs.Common.{codes, arith}
use Rattle.std.specs.Str.Parse.{ParsesUnsigned, ExplainsUnsignedError, HasUnsignedDigitsIfOk}
use Rattle.load_words.proofs.OptionReads.{read_handlers}
use Rattle.load_words.proofs.Spelled.{bounded, here}
use Rattle.load_words.proofs.numbers.handlers_of.Goals as goal

pub unreachable-requires : goal.unreachable-requires
unreachable-requires c =
    let got = bounded _ (λ bs r. ParsesUnsigned 32 10 bs r × ExplainsUnsignedError 10 bs r × HasUnsignedDigitsIfOk bs r) c.args.matches.now (codes "handlers") 16 c.get_one.result (λ u x g. g.0) (omega arith)
    (read_handlers c.args.matches.now c.requires) c.get_one.ensures.value in
    c.in_default.not-Some got.0 got.1

pub returns-clause-value : goal.returns-clause-value
returns-clause-value c =
    let got = bounded _ (λ bs r. ParsesUnsigned 32 10 bs r × ExplainsUnsignedError 10 bs r × HasUnsignedDigitsIfOk bs r) c.args.matches.now (codes "handlers") 16 c.get_one.result (λ u x g. g.0) (omega arith)
    (read_handlers c.args.matches.now c.requires) c.get_one.ensures.value in
    (here c.args.matches.now (codes "handlers") 1 16 c.get_one.result c.in-Some.number got c.in-Some.is).0

pub returns-clause-range : goal.returns-clause-range
returns-clause-range c =
    let got = bounded _ (λ bs r. ParsesUnsigned 32 10 bs r × ExplainsUnsignedError 10 bs r × HasUnsignedDigitsIfOk bs r) c.args.matches.now (codes "handlers") 16 c.get_one.result (λ u x g. g.0) (omega arith)
    (read_handlers c.args.matches.now c.requires) c.get_one.ensures.value in
    (here c.args.matches.now (codes "handlers") 1 16 c.get_one.result c.in-Some.number got c.in-Some.is).1
