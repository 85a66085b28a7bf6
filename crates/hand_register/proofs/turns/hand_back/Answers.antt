use Rattle.std.proofs.Common.{rules}
use Rattle.hand_register.proofs.Moves.{goes}
use Rattle.hand_register.proofs.turns.hand_back.Goals as goal

pub split_seat-requires : goal.split_seat-requires
split_seat-requires g c = (search rules, search rules, goes _ _ c.requires.desk.0 c.requires.desk.1)
