use Rattle.std.proofs.Common.{arith, sym, ap, ◌∙◌, subst, ℕ, ◌≡◌, ◌∷◌, Some}
use Rattle.atomic_table.specs.Table.{rest}
use Rattle.log_berth.specs.declared.known.Known.{Known}
use Rattle.log_berth.specs.Words.{NoMore}
use Rattle.log_berth.specs.Standing.{Standing, BerthId, first_of}
use Rattle.log_berth.proofs.Steps.{regains, gives_turn}
use Rattle.log_berth.proofs.berth.Berth.give.Goals as goal

pub join_seat-requires : goal.join_seat-requires
join_seat-requires g c =
    let is = c.self.invariant in
    let id = sym (ap (λ (p : BerthId). p.id) c.self.view_is) in
    let same = c.sit-knows.ensures.0 ∙ (ap (λ (s : Standing). s.berth) c.seat.view_is ∙ (c.requires.seat ∙ id)) in
    let mine = c.exchange.ensures.0 ∙ (c.requires.turn.1 ∙ id) in
    (mine, same, c.sit-knows.ensures.2, omega (arith, is.words), regains g.W.Ware.numbers g.W.Ware.is_broken _ _ _ _ _ (ap (λ m. m.0) c.exchange.ensures.3 ∙ ap (λ m. m.0) c.args.turn.out))

pub store-requires : goal.store-requires
store-requires g c =
    let is = c.self.invariant in
    let id = sym (ap (λ (p : BerthId). p.id) c.self.view_is) in
    let mine = c.exchange.ensures.0 ∙ (c.requires.turn.1 ∙ id) in
    let knows : c.sit-knows.result.me.0 ≡ c.args.seat.now.knows = ap first_of (sym c.sit-knows.ensures.1) ∙ ap (λ (s : Standing). s.knows) c.seat.view_is in
    let j = c.join_seat.ensures in
    let view : c.join_seat.new.seat.me.0 ≡ c.args.seat.now.knows = ap (λ m. m.0) j.2 ∙ knows in
    let slot = ap (λ m. m.1) j.2 ∙ (ap (λ m. m.1) c.exchange.ensures.3 ∙ ap (λ l. (0, Some c.args.turn.ware) ∷ rest l) (ap (λ m. m.1) c.args.turn.out)) in
    let k : ℕ × ℕ = (c.self.inside.regions, c.self.inside.seats) in (
      j.0 ∙ mine,
      omega (arith, is.words),
      rw is.key (gives_turn g.W.Ware.numbers g.W.Ware.is_broken k _ _ _ c.args.turn.ware (omega (arith, is.slots)) slot
          (ap (λ (v : Known). v.turn) view ∙ c.requires.turn.0)
          (subst (λ (v : Known). NoMore v.seen (g.W.Ware.numbers c.args.turn.ware)) (sym view) c.requires.durable)
          (c.requires.broken ∙ ap (λ (v : Known). v.broken) (sym view))),
    )
