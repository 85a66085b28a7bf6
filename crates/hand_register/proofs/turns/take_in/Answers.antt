use Rattle.std.proofs.Common.{rules, ap, sym, ◌∙◌}
use Rattle.hand_register.specs.Rule.{view_in}
use Rattle.hand_register.proofs.Moves.{comes}
use Rattle.hand_register.proofs.turns.take_in.Goals as goal

pub join_seat-requires : goal.join_seat-requires
join_seat-requires g c =
    let hand = ap (λ v. v.role) (ap view_in (sym c.into_seat.ensures.2)) ∙ c.requires.hand.1 in
    (search rules, search rules, search rules, search rules, comes _ _ _ _ c.requires.desk.0 hand)
