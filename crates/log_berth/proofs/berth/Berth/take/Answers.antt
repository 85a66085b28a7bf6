use Rattle.std.proofs.Common.{arith, sym, ap, ◌∙◌, ℕ, ◌∷◌, Some}
use Rattle.atomic_table.specs.Table.{rest}
use Rattle.log_berth.specs.declared.known.Known.{Known}
use Rattle.log_berth.specs.Standing.{Standing, BerthId, first_of}
use Rattle.log_berth.proofs.Steps.{takes_turn, hands}
use Rattle.log_berth.proofs.berth.Berth.take.Goals as goal

pub compare_exchange-requires : goal.compare_exchange-requires
compare_exchange-requires g c =
    let is = c.self.invariant in
    let same = c.sit-me.ensures.0 ∙ (ap (λ (s : Standing). s.berth) c.seat.view_is ∙ (c.requires ∙ sym (ap (λ (p : BerthId). p.id) c.self.view_is))) in
    let k : ℕ × ℕ = (c.self.inside.regions, c.self.inside.seats) in
    (same, omega (arith, is.words), rw is.key (takes_turn g.W.Ware.numbers g.W.Ware.is_broken k _ _ _ (omega (arith, ap (λ (v : Known). v.parts) (ap first_of (sym c.sit-me.ensures.1)), c.seat.invariant.1))))

pub exchange-requires : goal.exchange-requires
exchange-requires g c =
    let same = c.sit-me.ensures.0 ∙ (ap (λ (s : Standing). s.berth) c.seat.view_is ∙ (c.requires ∙ sym (ap (λ (p : BerthId). p.id) c.self.view_is))) in
    let owns = c.compare_exchange.ensures.2.0 c.if-compare_exchange-ne0.false in
    let slot = owns.1 ∙ ap (λ l. (0, Some owns.0) ∷ l) c.sit-me.ensures.2 in
    (c.compare_exchange.ensures.0 ∙ same, (Some owns.0, slot ∙ ap (λ l. (0, Some owns.0) ∷ l) (sym (ap rest slot))))

pub split_seat-knows-requires : goal.split_seat-knows-requires
split_seat-knows-requires g c =
    let is = c.self.invariant in
    let same = c.sit-me.ensures.0 ∙ (ap (λ (s : Standing). s.berth) c.seat.view_is ∙ (c.requires ∙ sym (ap (λ (p : BerthId). p.id) c.self.view_is))) in
    (c.exchange.ensures.0 ∙ (c.compare_exchange.ensures.0 ∙ same), omega (arith, is.words), hands g.W.Ware.numbers g.W.Ware.is_broken _ _ _)
