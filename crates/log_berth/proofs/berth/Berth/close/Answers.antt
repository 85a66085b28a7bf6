use Rattle.std.proofs.Common.{arith, ◌≡◌, ◌==◌, true, eq-eqb, ◌∷◌, ◌++◌, [], List, ℕ, length, length-append, take, get_or, sym, subst, ap, ◌∙◌}
use mathlib.Core.Option.{some-injective}
use Rattle.std.proofs.lemmas.Option.{same_Some}
use Rattle.std.specs.Slots.{slots_items}
use Rattle.log_berth.specs.declared.known.Known.{Known}
use Rattle.log_berth.specs.Words.{NoMore, Same, Informs}
use Rattle.log_berth.specs.Standing.{Standing, BerthId, Bundle, AreBack, AllSaw}
use Rattle.log_berth.proofs.Steps.{ends}
use Rattle.log_berth.proofs.Joined.{words_saw, all_saw, all_saw-snoc, are_back-front}
use Rattle.log_berth.proofs.berth.Berth.close.Goals as goal

pub joined-me-requires-clause-me : goal.joined-me-requires-clause-me
joined-me-requires-clause-me g c =
    let id = c.self.inside.table.shared.table_id in
    let same = ap (λ (p : BerthId). p.id) c.self.view_is in
    let items = ap (λ (b : Bundle). b.seats) c.seats.view_is in
    let all : AreBack id c.seats.inside.seats.items = rw (same, items) c.requires.back in
    let back = (are_back-front id c.pop.new.self.items c.in-Some.first (subst (AreBack id) c.in-Some.ensures.items all)).1.0 in
    let s = c.into_seat.ensures.seat in
    (s.0 ∙ back.0, ap (λ m. m.1) s.1, ap (λ m. m.0.turn) s.1 ∙ back.1, omega (arith, c.self.invariant.words))

pub joined-me-requires-clause-back : goal.joined-me-requires-clause-back
joined-me-requires-clause-back g c =
    let id = c.self.inside.table.shared.table_id in
    let same = ap (λ (p : BerthId). p.id) c.self.view_is in
    let items = ap (λ (b : Bundle). b.seats) c.seats.view_is in
    let all : AreBack id c.seats.inside.seats.items = rw (same, items) c.requires.back in
    (are_back-front id c.pop.new.self.items c.in-Some.first (subst (AreBack id) c.in-Some.ensures.items all)).0

pub finish-requires-clause-ware : goal.finish-requires-clause-ware
finish-requires-clause-ware g c =
    let key : ℕ × ℕ = (c.self.inside.table.shared.key.regions, c.self.inside.table.shared.key.seats) in
    let items = ap (λ (b : Bundle). b.seats) c.seats.view_is in
    let left : List Standing = c.pop.new.self.items in
    let first : Standing = c.in-Some.first in
    let popped : c.seats.inside.seats.items ≡ left ++ first ∷ [] = c.in-Some.ensures.items in
    let mine : c.into_seat.result.me.0 ≡ first.knows = ap (λ m. m.0) c.into_seat.ensures.seat.1 in
    let v : Known = c.joined-me.result.me.0 in
    let ws : List ℕ = slots_items c.close_with.result.words in
    let parts : v.parts ≡ key.1 = omega (arith, c.joined-me.ensures.seat.3, ap (λ (u : Known). u.parts) mine, c.into_seat.ensures.part, ap length popped, length-append left (first ∷ []), ap length items, c.requires.all, ap (λ (p : BerthId). p.seats) c.self.view_is, ap (λ (k : ℕ × ℕ). k.1) c.self.invariant.key) in
    let e = ends g.W.Ware.numbers g.W.Ware.is_broken key _ v ws (slots_items c.close_with.result.slots) parts c.joined-me.ensures.seat.2 c.close_with.ensures.values.2 in
    (e.0, e.1)

pub returns-clause-ware : goal.returns-clause-ware
returns-clause-ware g c =
    let key : ℕ × ℕ = (c.self.inside.table.shared.key.regions, c.self.inside.table.shared.key.seats) in
    let items = ap (λ (b : Bundle). b.seats) c.seats.view_is in
    let left : List Standing = c.pop.new.self.items in
    let first : Standing = c.in-Some.first in
    let popped : c.seats.inside.seats.items ≡ left ++ first ∷ [] = c.in-Some.ensures.items in
    let mine : c.into_seat.result.me.0 ≡ first.knows = ap (λ m. m.0) c.into_seat.ensures.seat.1 in
    let v : Known = c.joined-me.result.me.0 in
    let ws : List ℕ = slots_items c.close_with.result.words in
    let parts : v.parts ≡ key.1 = omega (arith, c.joined-me.ensures.seat.3, ap (λ (u : Known). u.parts) mine, c.into_seat.ensures.part, ap length popped, length-append left (first ∷ []), ap length items, c.requires.all, ap (λ (p : BerthId). p.seats) c.self.view_is, ap (λ (k : ℕ × ℕ). k.1) c.self.invariant.key) in
    let e = ends g.W.Ware.numbers g.W.Ware.is_broken key _ v ws (slots_items c.close_with.result.slots) parts c.joined-me.ensures.seat.2 c.close_with.ensures.values.2 in
    let n : key.0 ≡ c.self.inside.regions = ap (λ (k : ℕ × ℕ). k.0) c.self.invariant.key in
    let f = c.finish.ensures in
    let ware : e.0 ≡ c.finish.result.ware = same_Some e.0 c.finish.result.ware (some-injective _ _ (sym e.1 ∙ f.ware)) in
    let synced : take key.0 ws ≡ c.finish.result.synced = ap (λ (k : ℕ). take k ws) n ∙ sym f.synced.0 in
    let fault : (get_or ws key.0 0 == 1) ≡ c.finish.result.broken = ap (λ (k : ℕ). get_or ws k 0 == 1) n ∙ sym f.broken in (
      subst (λ (p : List ℕ × g.row.W.Denot). NoMore p.0 (g.W.Ware.numbers p.1)) (λ i. (synced i, ware i)) e.2.below,
      sym (ap g.W.Ware.is_broken (sym ware) ∙ (e.2.same ∙ fault)),
    )

pub returns-clause-saw : goal.returns-clause-saw
returns-clause-saw g c =
    let key : ℕ × ℕ = (c.self.inside.table.shared.key.regions, c.self.inside.table.shared.key.seats) in
    let items = ap (λ (b : Bundle). b.seats) c.seats.view_is in
    let left : List Standing = c.pop.new.self.items in
    let first : Standing = c.in-Some.first in
    let popped : c.seats.inside.seats.items ≡ left ++ first ∷ [] = c.in-Some.ensures.items in
    let mine : c.into_seat.result.me.0 ≡ first.knows = ap (λ m. m.0) c.into_seat.ensures.seat.1 in
    let v : Known = c.joined-me.result.me.0 in
    let ws : List ℕ = slots_items c.close_with.result.words in
    let parts : v.parts ≡ key.1 = omega (arith, c.joined-me.ensures.seat.3, ap (λ (u : Known). u.parts) mine, c.into_seat.ensures.part, ap length popped, length-append left (first ∷ []), ap length items, c.requires.all, ap (λ (p : BerthId). p.seats) c.self.view_is, ap (λ (k : ℕ × ℕ). k.1) c.self.invariant.key) in
    let e = ends g.W.Ware.numbers g.W.Ware.is_broken key _ v ws (slots_items c.close_with.result.slots) parts c.joined-me.ensures.seat.2 c.close_with.ensures.values.2 in
    let n : key.0 ≡ c.self.inside.regions = ap (λ (k : ℕ × ℕ). k.0) c.self.invariant.key in
    let synced : take key.0 ws ≡ c.finish.result.synced = ap (λ (k : ℕ). take k ws) n ∙ sym c.finish.ensures.synced.0 in
    let fault : (get_or ws key.0 0 == 1) ≡ c.finish.result.broken = ap (λ (k : ℕ). get_or ws k 0 == 1) n ∙ sym c.finish.ensures.broken in
    let low : NoMore v.seen c.finish.result.synced = subst (NoMore v.seen) synced e.3 in
    let told : v.broken ≡ true → (c.finish.result.broken ≡ true) × Same v.last c.finish.result.synced =
    λ b. (sym fault ∙ eq-eqb (get_or ws key.0 0) 1 (e.4 b).0, subst (Same v.last) synced (e.4 b).1) in
    let here : Informs first.knows v = subst (λ (u : Known). Informs u v) mine c.joined-me.ensures.first in
    let others = all_saw left v c.finish.result.synced c.finish.result.broken c.joined-me.ensures.saw low told in
    let whole = all_saw-snoc left first c.finish.result.synced c.finish.result.broken others (words_saw first v c.finish.result.synced c.finish.result.broken here low told) in
    subst (λ (l : List Standing). AllSaw l c.finish.result.synced c.finish.result.broken) (sym popped ∙ items) whole
