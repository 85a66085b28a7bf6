use Rattle.std.proofs.Common.{length, arith, ap, sym, ◌∙◌}
use Rattle.script_text.proofs.FillingLaws.{filling_below, cell_below, plain_len}
use Rattle.script_text.proofs.filling.Filling.body_with.Goals as goal

pub overflow_add-tagged_len : goal.overflow_add-tagged_len
overflow_add-tagged_len c = omega (arith, filling_below _ _ _ c.self.invariant, cell_below _ c.tagged_len.ensures.within, c.tagged_len.ensures.len)

pub overflow_add-result : goal.overflow_add-result
overflow_add-result c = omega (arith, filling_below _ _ _ c.self.invariant, cell_below _ c.tagged_len.ensures.within, c.tagged_len.ensures.len)

pub overflow_sub-result : goal.overflow_sub-result
overflow_sub-result c = omega (arith, plain_len _ c.args.self.now c.args.cell.now _ c.tagged_len.result _ _ c.self.invariant c.self.view_is (sym c.is_plain_with.ensures ∙ c.if-is_plain_with.true) c.tagged_len.ensures.len (ap length c.as_slice.ensures.value))

pub overflow_add-result-else-is_plain_with-2 : goal.overflow_add-result-else-is_plain_with-2
overflow_add-result-else-is_plain_with-2 c = omega (arith, filling_below _ _ _ c.self.invariant, cell_below _ c.tagged_len.ensures.within, c.tagged_len.ensures.len, c.self.invariant.table_below, c.len.ensures)

pub returns-then-is_plain_with : goal.returns-then-is_plain_with
returns-then-is_plain_with c = omega (arith, plain_len _ c.args.self.now c.args.cell.now _ c.tagged_len.result _ _ c.self.invariant c.self.view_is (sym c.is_plain_with.ensures ∙ c.if-is_plain_with.true) c.tagged_len.ensures.len (ap length c.as_slice.ensures.value))
