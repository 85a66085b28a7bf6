use Rattle.std.proofs.Common.{ap}
use Rattle.log_berth.specs.declared.known.Known.{Known}
use Rattle.log_berth.proofs.Steps.{cuts}
use Rattle.log_berth.proofs.opening.cut.Goals as goal

pub split_seat-seat-requires : goal.split_seat-seat-requires
split_seat-seat-requires g c =
    let r = c.requires in
    (r.table.0, r.table.1, cuts g.W.Ware.numbers g.W.Ware.is_broken _ _ _ r.parts.0 (ap (λ (v : Known). v.turn) r.parts.1))
