use Rattle.std.proofs.Common.{rules, ap}
use Rattle.hand_register.proofs.Moves.{makes}
use Rattle.hand_register.proofs.turns.make.Goals as goal

pub split_seat-requires : goal.split_seat-requires
split_seat-requires g c =
    let v = ap (λ m. m.0) c.requires.desk.0 in
    (search rules, search rules, makes _ _ (ap (λ k. k.role) v) (ap (λ k. k.inside) v))
