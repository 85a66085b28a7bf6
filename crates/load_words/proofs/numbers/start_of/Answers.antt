use Rattle.std.proofs.Common.{codes}
use Rattle.std.specs.Str.Parse.{ParsesUnsigned, ExplainsUnsignedError, HasUnsignedDigitsIfOk}
use Rattle.load_words.proofs.OptionReads.{read_start}
use Rattle.load_words.proofs.Spelled.{unbounded, here_unbounded}
use Rattle.load_words.proofs.numbers.start_of.Goals as goal

pub unreachable-requires : goal.unreachable-requires
unreachable-requires c =
    let got = unbounded _ (λ bs r. ParsesUnsigned 64 10 bs r × ExplainsUnsignedError 10 bs r × HasUnsignedDigitsIfOk bs r) c.args.matches.now (codes "start") c.get_one.result (λ u x g. g.0)
    (read_start c.args.matches.now c.requires) c.get_one.ensures.value in
    c.in_default.not-Some got.0 got.1

pub returns : goal.returns
returns c =
    let got = unbounded _ (λ bs r. ParsesUnsigned 64 10 bs r × ExplainsUnsignedError 10 bs r × HasUnsignedDigitsIfOk bs r) c.args.matches.now (codes "start") c.get_one.result (λ u x g. g.0)
    (read_start c.args.matches.now c.requires) c.get_one.ensures.value in
    here_unbounded c.args.matches.now (codes "start") c.get_one.result c.in-Some.number got c.in-Some.is
