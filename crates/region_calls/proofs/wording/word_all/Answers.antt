use Rattle.std.proofs.Common.{◌≡◌, inl, inr, ℕ, List, [], ◌∷◌, ◌++◌, length, Some, slice_get, sym, ap, ◌∙◌, subst, arith, length-append, append_assoc}
use Rattle.std.specs.Vec.Iter.{into_iter_items}
use Rattle.pass_calls.proofs.region_lock_laws.Lists.{at_middle}
use Rattle.region_calls.specs.Wordings.{IsWorded}
use Rattle.region_calls.specs.declared.apart.Taken.{Taken}
use Rattle.region_calls.specs.declared.closed.ClosedRegion.{ClosedRegion}
use Rattle.region_calls.proofs.Seated.{get_push}
use Rattle.region_calls.proofs.wording.word_all.Goals as goal

pub wording-preserved : goal.wording-preserved
wording-preserved g c =
    let inv = c.wording.invariant in
    let ys : List Taken = c.wording.yielded in
    let one : Taken = c.in-Some.one in
    let all : List Taken = c.args.taken.items in
    let words : List ℕ = c.args.words.now in
    let rest : List Taken = into_iter_items c.next.new.self in
    let steps = c.in-Some.ensures.steps.0 in
    let n = ap length steps in
    let old : List ClosedRegion = c.wording.worded.items in
    let new : ClosedRegion = c.word.result in
    let whole : ys ++ one ∷ rest ≡ all = ap (λ (l : List Taken). ys ++ l) (sym steps) ∙ inv.rest in
    let here : slice_get all (length old) ≡ Some one = subst (λ (k : ℕ). slice_get all k ≡ Some one) (sym inv.count) (subst (λ (l : List Taken). slice_get l (length ys) ≡ Some one) whole (at_middle ys rest one)) in
    let longer = length-append ys (one ∷ []) in
    let count : c.len-regions.result ≡ length all = omega (arith, c.len-regions.ensures, c.args.taken.ok.0) in
    let behind : c.len-place.result ≡ length old = omega (arith, c.len-place.ensures, c.wording.worded.ok.0) in
    record {
      each = λ k x at. elim (get_push old new k x (subst (λ (l : List ClosedRegion). slice_get l k ≡ Some x) c.push_reserved.ensures.items at)) as (λ _. (t : Taken) × (slice_get all k ≡ Some t) × IsWorded (length all) words k t.base t.lines.items x) [
        | inl was ↦ inv.each k x was
        | inr (place, same) ↦
            let made : IsWorded (length all) words (length old) one.base one.lines.items new =
            subst (λ (m : ℕ). IsWorded m words (length old) one.base one.lines.items new) count (subst (λ (m : ℕ). IsWorded c.len-regions.result words m one.base one.lines.items new) behind c.word.ensures) in (
              one,
              subst (λ (m : ℕ). slice_get all m ≡ Some one) (sym place) here,
              subst (λ (y : ClosedRegion). IsWorded (length all) words k one.base one.lines.items y) same (subst (λ (m : ℕ). IsWorded (length all) words m one.base one.lines.items new) (sym place) made),
            )
      ];
      rest = append_assoc ys (one ∷ []) rest ∙ whole;
      count = ap length c.push_reserved.ensures.items ∙ omega (arith, length-append old (new ∷ []), longer, inv.count);
      len = omega (arith, c.in-Some.ensures.steps.1, n, inv.len);
      room = omega (arith, inv.room, c.push_reserved.ensures.capacity);
    }
