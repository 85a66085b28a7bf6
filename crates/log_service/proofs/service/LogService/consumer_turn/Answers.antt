use Rattle.std.proofs.Common.{◌≡◌, ℕ, refl, sym}
use Rattle.log_service.specs.declared.turning.ConsumerTurn.TheVariants as turns
use Rattle.log_service.proofs.service.LogService.consumer_turn.Goals as goal

-- each answer is no other
full_empty : turns.StageFull ≡ turns.Empty → ⊥
full_empty is = absurd (cc is)

moved_empty : (n : ℕ) → turns.Moved n ≡ turns.Empty → ⊥
moved_empty n is = absurd (cc is)

moved_full : (n : ℕ) → turns.Moved n ≡ turns.StageFull → ⊥
moved_full n is = absurd (cc is)

pub returns-in-Moved-clause-items : goal.returns-in-Moved-clause-items
returns-in-Moved-clause-items g c n is =
    let said = c.in-Moved.ensures.moved n (cc is) in
    record { old = c.in-Ok.turn.ware; new = c.move_items-moves.new.self; items = said.2.0; count = said.2.1; moved = said.2.2 }

pub returns-in-Empty-clause-empty : goal.returns-in-Empty-clause-empty
returns-in-Empty-clause-empty g c is =
    let said = c.in-Empty.ensures.empty refl in
    record { old = c.in-Ok.turn.ware; new = c.move_items-moves.new.self; moved = said.0; empty = said.1 }

pub returns-in-StageFull-clause-full : goal.returns-in-StageFull-clause-full
returns-in-StageFull-clause-full g c is =
    let said = c.in-StageFull.ensures.full refl in
    record { old = c.in-Ok.turn.ware; new = c.move_items-moves.new.self; moved = said.0; long = said.1 }

pub returns-in-Moved-clause-empty : goal.returns-in-Moved-clause-empty
returns-in-Moved-clause-empty g c is = absurd (moved_empty _ is)

pub returns-in-Moved-clause-full : goal.returns-in-Moved-clause-full
returns-in-Moved-clause-full g c is = absurd (moved_full _ is)

pub returns-in-Empty-clause-items : goal.returns-in-Empty-clause-items
returns-in-Empty-clause-items g c n is = absurd (moved_empty n (sym is))

pub returns-in-Empty-clause-full : goal.returns-in-Empty-clause-full
returns-in-Empty-clause-full g c is = absurd (full_empty (sym is))

pub returns-in-StageFull-clause-items : goal.returns-in-StageFull-clause-items
returns-in-StageFull-clause-items g c n is = absurd (moved_full n (sym is))

pub returns-in-StageFull-clause-empty : goal.returns-in-StageFull-clause-empty
returns-in-StageFull-clause-empty g c is = absurd (full_empty is)
