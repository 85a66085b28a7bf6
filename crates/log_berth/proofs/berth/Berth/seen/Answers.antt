use Rattle.std.proofs.Common.{arith, ap, ◌∙◌, sym, ℕ}
use Rattle.log_berth.specs.Standing.{Standing, BerthId}
use Rattle.log_berth.proofs.Steps.{sees}
use Rattle.log_berth.proofs.berth.Berth.seen.Goals as goal

pub load-found-requires : goal.load-found-requires
load-found-requires g c =
    let is = c.self.invariant in
    let same = c.sit-me.ensures.0 ∙ (ap (λ (s : Standing). s.berth) c.seat.view_is ∙ (c.requires.seat ∙ sym (ap (λ (p : BerthId). p.id) c.self.view_is))) in
    let regions = ap (λ (p : BerthId). p.regions) c.self.view_is in
    let key = ap (λ (k : ℕ × ℕ). k.0) is.key in
    (same, omega (arith, is.words, c.requires.region, regions), sees g.W.Ware.numbers g.W.Ware.is_broken _ _ _ _ _ (omega (arith, key, c.requires.region, regions)))
