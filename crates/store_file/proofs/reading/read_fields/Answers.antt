use Rattle.std.proofs.Common.{◌∙◌}
use Rattle.store_file.proofs.FieldLaws.{short_fault, word_fault}
use Rattle.store_file.proofs.reading.read_fields.Goals as goal

pub returns-then-bytes-lt5 : goal.returns-then-bytes-lt5
returns-then-bytes-lt5 c = short_fault c.args.region c.args.bytes.now c.if-bytes-lt5.true

pub returns : goal.returns
returns c = word_fault c.args.region c.args.bytes.now (λ is. c.if-word-eq-PLAIN_WORD.false (c.u32_at-word.ensures ∙ is)) (λ is. c.if-word-eq-TAGGED_WORD.false (c.u32_at-word.ensures ∙ is))
