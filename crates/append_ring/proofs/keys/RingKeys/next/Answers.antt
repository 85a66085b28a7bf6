use Rattle.std.proofs.Common.{◌≡◌, ◌∙◌, Some, List, arith, sym, ap, subst, length, set}
use Rattle.std.specs.Prelude.{Option, slice_get}
use Rattle.append_ring.specs.declared.pass.RingKey.{RingKey}
use Rattle.append_ring.specs.Parts.{first_there, without_first, AreOut, AreInPlace}
use Rattle.append_ring.proofs.Places.{some_inside, read_at, all_out, found, in_place-out}
use Rattle.append_ring.proofs.keys.RingKeys.next.Goals as goal

pub returns-in_err-first-clause-given : goal.returns-in_err-first-clause-given
returns-in_err-first-clause-given g c =
    let is = c.deref.ensures.value ∙ c.self.view_is in
    let out = subst (λ (l : List (Option (RingKey g.row.T.Denot))). AreOut (length l) l) is c.in_err-first.ensures in
    c.from_residual.ensures ∙ sym (all_out c.args.self.now out).0

pub returns-in_err-first-clause-left : goal.returns-in_err-first-clause-left
returns-in_err-first-clause-left g c =
    let is = c.deref.ensures.value ∙ c.self.view_is in
    let out = subst (λ (l : List (Option (RingKey g.row.T.Denot))). AreOut (length l) l) is c.in_err-first.ensures in
    sym (all_out c.args.self.now out).1

pub index_mut-requires : goal.index_mut-requires
index_mut-requires g c =
    let p = some_inside _ c.in_ok-first.ensures.1 in
    let low = (read_at c.deref.result.now c.in_ok-first.first (Some p.0) (Some p.0) p.1).0 in
    omega (arith, low, ap length c.deref.ensures.value, c.self.inside.places.ok)

pub invariant_of-self : goal.invariant_of-self
invariant_of-self g c =
    let items = c.self.inside.places.items in
    let i = c.in_ok-first.first in
    let e = c.deref.ensures.value in
    let p = some_inside _ c.in_ok-first.ensures.1 in
    let f = found i items p.0 (subst (AreOut i) e c.in_ok-first.ensures.0) (subst (λ (l : List (Option (RingKey g.row.T.Denot))). slice_get l i ≡ Some (Some p.0)) e p.1) in
    subst (AreInPlace {T = g.row.T.Denot} 0) (f.1 ∙ ap (λ (o : Option (RingKey g.row.T.Denot)). set items i o) (sym c.take.ensures.after)) (in_place-out 0 items c.self.invariant)

pub returns-clause-given : goal.returns-clause-given
returns-clause-given g c =
    let items = c.self.inside.places.items in
    let i = c.in_ok-first.first in
    let e = c.deref.ensures.value in
    let p = some_inside _ c.in_ok-first.ensures.1 in
    let at = subst (λ (l : List (Option (RingKey g.row.T.Denot))). slice_get l i ≡ Some (Some p.0)) e p.1 in
    let f = found i items p.0 (subst (AreOut i) e c.in_ok-first.ensures.0) at in
    c.take.ensures.value ∙ (c.index_mut.ensures.value ∙ ((read_at items i (Some p.0) c.index_mut.result.now at).1 ∙ (sym f.0 ∙ ap first_there c.self.view_is)))

pub returns-clause-left : goal.returns-clause-left
returns-clause-left g c =
    let items = c.self.inside.places.items in
    let i = c.in_ok-first.first in
    let e = c.deref.ensures.value in
    let p = some_inside _ c.in_ok-first.ensures.1 in
    let f = found i items p.0 (subst (AreOut i) e c.in_ok-first.ensures.0) (subst (λ (l : List (Option (RingKey g.row.T.Denot))). slice_get l i ≡ Some (Some p.0)) e p.1) in
    ap (λ (o : Option (RingKey g.row.T.Denot)). set items i o) c.take.ensures.after ∙ (sym f.1 ∙ ap without_first c.self.view_is)
