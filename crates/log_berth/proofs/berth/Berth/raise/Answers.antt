use Rattle.std.proofs.Common.{arith, sym, ap, ◌∙◌, subst, ℕ, ◌≡◌, ◌-◌, ◌≤◌, get_or}
use Rattle.log_berth.specs.declared.known.Known.{Known}
use Rattle.log_berth.specs.Standing.{Standing, BerthId, first_of}
use Rattle.log_berth.proofs.Steps.{raises}
use Rattle.log_berth.proofs.berth.Berth.raise.Goals as goal

pub store-requires : goal.store-requires
store-requires g c =
    let is = c.self.invariant in
    let same = c.sit-me.ensures.0 ∙ (ap (λ (s : Standing). s.berth) c.seat.view_is ∙ (c.requires.seat ∙ sym (ap (λ (p : BerthId). p.id) c.self.view_is))) in
    let knows : c.sit-me.result.me.0 ≡ c.args.seat.now.knows = ap first_of (sym c.sit-me.ensures.1) ∙ ap (λ (s : Standing). s.knows) c.seat.view_is in
    let regions = ap (λ (p : BerthId). p.regions) c.self.view_is in
    let key = ap (λ (k : ℕ × ℕ). k.0) is.key in
    let k : ℕ × ℕ = (c.self.inside.regions, c.self.inside.seats) in (
      same,
      omega (arith, is.words, c.requires.region, regions),
      raises g.W.Ware.numbers g.W.Ware.is_broken _ _ _ _ _ _ (omega (arith, key, c.requires.region, regions))
          (ap (λ (v : Known). v.turn) knows ∙ c.requires.turn.0) (ap (λ (v : Known). v.broken) knows ∙ c.requires.whole)
          (subst (λ (v : Known). get_or v.seen (c.args.region - 1) 0 ≤ c.args.number) (sym knows) c.requires.number.0),
    )
