use Rattle.std.proofs.Common.{◌≡◌, ℕ, List, ◌++◌, length, ap, ◌∙◌}
use Rattle.byteorder.specs.Endian.{big_bytes}
use Rattle.cell_model.specs.Cell.{Cell}
use Rattle.cell_model.proofs.CellLaws.{tagged_appended}
use Rattle.kv_cell.proofs.cell.Cell.put_tagged.Goals as goal

pub returns-clause-items : goal.returns-clause-items
returns-clause-items c =
    let cell : Cell = c.args.self.now in
    let tags : c.as_slice-tags.result.now ≡ cell.tags = c.as_slice-tags.ensures ∙ ap (λ (v : Cell). v.tags) c.self.view_is in
    tagged_appended cell c.args.out.now.items c.put_plain.new.out.items c.put_u16.new.out.items c.put.new.out.items c.put_plain.ensures.items
    (c.put_u16.ensures.items ∙ ap (λ (x : List ℕ). c.put_plain.new.out.items ++ big_bytes 2 (length x)) tags)
    (c.put.ensures.items ∙ ap (λ (x : List ℕ). c.put_u16.new.out.items ++ x) tags)
