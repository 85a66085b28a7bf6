use Rattle.std.proofs.Common.{arith}
use Rattle.mem_segments.proofs.Sorting.{short_rises, short_content, halves_rise, halves_content}
use Rattle.mem_segments.proofs.ordering.+halved_rows.Goals as goal

pub returns-then-rows-lt2-clause-rising : goal.returns-then-rows-lt2-clause-rising
returns-then-rows-lt2-clause-rising t c = short_rises c.share_all.new.rows.items c.new-few.result.items c.args.rows.now c.in_ok-share_all.ensures c.new-few.ensures.items (omega arith)

pub returns-then-rows-lt2-clause-content : goal.returns-then-rows-lt2-clause-content
returns-then-rows-lt2-clause-content t c = short_content c.share_all.new.rows.items c.new-few.result.items c.args.rows.now c.in_ok-share_all.ensures c.new-few.ensures.items (omega arith)

pub returns-clause-rising : goal.returns-clause-rising
returns-clause-rising t c = halves_rise _ _ _ _ _ c.in_ok-ordered.ensures c.deref.ensures.value c.deref-2.ensures.value c.in_ok-first.ensures.rising c.in_ok-second.ensures.rising

pub returns-clause-content : goal.returns-clause-content
returns-clause-content t c =
    halves_content _ c.args.rows.now _ _ _ _ _ (omega arith) c.in_ok-ordered.ensures c.deref.ensures.value c.deref-2.ensures.value c.in_ok-first.ensures.rising c.in_ok-second.ensures.rising c.in_ok-first.ensures.content c.in_ok-second.ensures.content
