use Rattle.std.proofs.Math.Logic.{∥∥₁_map}
use Rattle.std.proofs.Common.{sym, subst, ◌∙◌}
use Rattle.log_model.specs.LogText.{FileKey, IsLogText}
use Rattle.log_model.specs.Files.{Files, Reads}
use Rattle.log_file.proofs.read.read_log.Goals as goal

pub read_pieces-requires-clause-there : goal.read_pieces-requires-clause-there
read_pieces-requires-clause-there g c told =
    ∥∥₁_map (c.requires told) (λ r. (r.0, subst (λ (f : Files). Reads f c.args.name r.0) (sym (c.size.ensures.looks told).files) r.1))

pub returns-clause-text : goal.returns-clause-text
returns-clause-text g c told bytes reads =
    let reads_now : Reads (g.D.Disk.view c.size.new.self).files c.args.name bytes = subst (λ (f : Files). Reads f c.args.name bytes) (sym (c.size.ensures.looks told).files) reads in
    let fed = c.in_ok-read_pieces.ensures.fed told bytes reads_now in
    subst (λ (k : FileKey). IsLogText k bytes c.in_ok-text.text.entries c.in_ok-text.text.ended) (c.in_ok-read_pieces.ensures.key ∙ c.new-reading.ensures.key) (c.in_ok-text.ensures.text bytes fed)
