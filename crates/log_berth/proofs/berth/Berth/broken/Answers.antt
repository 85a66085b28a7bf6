use Rattle.std.proofs.Common.{arith, sym, ap, ◌∙◌, ℕ}
use Rattle.log_berth.specs.Standing.{Standing, BerthId}
use Rattle.log_berth.proofs.Steps.{sees_set}
use Rattle.log_berth.proofs.berth.Berth.broken.Goals as goal

pub load-found-requires : goal.load-found-requires
load-found-requires g c =
    let is = c.self.invariant in
    let same = c.sit-me.ensures.0 ∙ (ap (λ (s : Standing). s.berth) c.seat.view_is ∙ (c.requires ∙ sym (ap (λ (p : BerthId). p.id) c.self.view_is))) in
    let k : ℕ × ℕ = (c.self.inside.regions, c.self.inside.seats) in
    (same, omega (arith, is.words), rw is.key (sees_set g.W.Ware.numbers g.W.Ware.is_broken k _ _ _))
