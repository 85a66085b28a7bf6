use Rattle.std.proofs.Common.{ap, arith}
use Rattle.cell_model.specs.Cell.{Cell}
use Rattle.script_text.proofs.FillingLaws.{filling_below, cell_below, filled}
use Rattle.script_text.proofs.filling.Filling.push.Goals as goal

pub overflow_add-self : goal.overflow_add-self
overflow_add-self c = omega (arith, filling_below _ _ _ c.self.invariant, cell_below _ c.tagged_len-tagged_len.ensures.within, c.tagged_len-tagged_len.ensures.len)

pub invariant_of-self-2 : goal.invariant_of-self-2
invariant_of-self-2 c =
    filled _ _ _ _ _ _ _ _ _ c.self.invariant c.self.view_is c.requires.count c.requires.room c.tagged_len-tagged_len.ensures.len (ap (λ (x : Cell). x.tags) c.cell.view_is) c.is_empty-untagged.ensures c.in_ok-push.ensures.items
