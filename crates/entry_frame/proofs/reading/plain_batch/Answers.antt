use Rattle.std.proofs.Common.{◌≡◌, length, drop, arith, ◌∙◌, refl}
use Rattle.std.specs.List.{between}
use Rattle.std.proofs.lemmas.Slice.{between_to_end}
use Rattle.cell_model.specs.Batch.{batch_of}
use Rattle.entry_frame.proofs.BodyLaws.{plain_read}
use Rattle.entry_frame.proofs.reading.plain_batch.Goals as goal

pub returns : goal.returns
returns c =
    let found = c.in-Some.ensures in
    let part : between 24 (length c.args.bytes.now) c.args.bytes.now ≡ drop 24 c.args.bytes.now = between_to_end c.args.bytes.now 24 (length c.args.bytes.now) (omega arith) in
    (batch_of found.0, plain_read c.args.bytes.now found.0 (omega arith) found.1, refl, found.2, part ∙ found.1.cells)
