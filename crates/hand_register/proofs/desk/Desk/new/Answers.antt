use Rattle.std.proofs.Common.{◌≡◌, ◌+◌, [], ◌∷◌, ◌++◌, length, ◌∙◌, ap, arith, length-append}
use Rattle.hand_register.proofs.Moves.{opens, posed_more, fresh_more}
use Rattle.hand_register.proofs.desk.Desk.new.Goals as goal

pub of_words-requires : goal.of_words-requires
of_words-requires g c = opens (0 ∷ []) []

pub loop-made-preserved : goal.loop-made-preserved
loop-made-preserved g c =
    let i = c.loop-made.invariant in
    let outs = posed_more c.loop-made.seat.me c.make.new.seat.me c.loop-made.made i.1 c.make.ensures.desk in
    let items : c.push_back_reserved.new.self.items ≡ c.loop-made.list.items ++ c.make.result ∷ [] = c.push_back_reserved.ensures.items ∙ ap (λ l. l ++ c.make.result ∷ []) c.in_ok-reserve.ensures.items in
    let hand = c.make.ensures.hand in
    let long : length c.loop-made.list.items ≡ c.loop-made.made = i.2 in
    let number : c.make.result.number ≡ 1 + length c.loop-made.list.items = hand.0 ∙ omega arith in
    let fresh = fresh_more c.loop-made.seat.table_id 1 c.loop-made.list.items c.make.result i.3 number hand.1 hand.2 in
    rw (items, c.make.ensures.same) (i.0, outs, omega (arith, length-append c.loop-made.list.items (c.make.result ∷ []), long), fresh)
