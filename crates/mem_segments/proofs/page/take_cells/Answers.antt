use Rattle.std.proofs.Common.{◌++◌, [], ◌∷◌, take, arith, sym, ap, ◌∙◌, append_assoc, option_map, Bor}
use Rattle.cell_model.specs.Order.{NumberedCell}
use Rattle.mem_segments.specs.Walk.{last_given}
use Rattle.mem_segments.proofs.Resuming.{taken_more, none_more, last_more}
use Rattle.mem_segments.proofs.page.take_cells.Goals as goal

pub loop-i-preserved : goal.loop-i-preserved
loop-i-preserved c =
    let all = c.args.walk.now in
    let x : NumberedCell = c.in-Some.row.now in
    let i = c.loop-i.i in
    let before = option_map (λ (row : Bor NumberedCell). row.now) c.args.before in
    let more = taken_more i all c.next_row.new.self x (sym c.loop-i.invariant.rest ∙ c.in-Some.ensures) in
    record {
      cells = c.in_ok-push_copy.ensures ∙ (λ k. c.loop-i.invariant.cells k ++ x ∷ []) ∙ append_assoc c.args.cells.now (take i all) (x ∷ []) ∙ (λ k. c.args.cells.now ++ sym more.0 k);
      rest = more.1;
      last = last_more before (take i all) x ∙ ap (last_given before) (sym more.0);
    }

pub returns-in_default : goal.returns-in_default
returns-in_default c =
    let before = option_map (λ (row : Bor NumberedCell). row.now) c.args.before in
    let end = none_more c.loop-i.i c.args.count c.args.walk.now (omega arith) (sym c.loop-i.invariant.rest ∙ c.in_default.ensures.0) in
    record {
      cells = c.loop-i.invariant.cells ∙ (λ k. c.args.cells.now ++ end.0 k);
      rest = c.in_default.ensures.1 ∙ sym end.1;
      last = c.loop-i.invariant.last ∙ ap (last_given before) end.0;
    }
