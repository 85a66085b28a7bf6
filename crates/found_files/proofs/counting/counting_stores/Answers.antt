use Rattle.std.proofs.Common.{◌≡◌, ◌∙◌, ℕ, nat_le, List, [], ◌∷◌, ◌++◌, length, get_or, Contains, sym, ap, subst, arith}
use Rattle.std.proofs.lemmas.List.{append_assoc, append-nil, nil_from_length}
use Rattle.std.proofs.lemmas.List.Elements.{Contains-append_right, filter-append}
use Rattle.std.specs.Vec.Iter.{into_iter_items}
use Rattle.found_files.specs.declared.found.FoundStore.{FoundStore}
use Rattle.found_files.specs.Counting.{AreCounting, AreFirstNumbers, counting_among}
use Rattle.found_files.proofs.Placing.{first_in}
use Rattle.found_files.proofs.Replaced.{are_counting}
use Rattle.found_files.proofs.counting.counting_stores.Goals as goal

pub first_numbers-requires : goal.first_numbers-requires
first_numbers-requires c x has = c.requires.regions x (subst (λ (l : List FoundStore). Contains l x) c.deref.ensures.value has)

pub keep-requires : goal.keep-requires
keep-requires c =
    let ys = c.loop-store.yielded in
    let x = c.in-Some.store in
    let rest = into_iter_items c.next.new.self in
    let is : ys ++ x ∷ rest ≡ c.args.stores.items = ap (λ (l : List FoundStore). ys ++ l) (sym c.in-Some.ensures.steps.0) ∙ c.loop-store.invariant.rest in
    let low = c.requires.regions x (subst (λ (l : List FoundStore). Contains l x) is (Contains-append_right ys (x ∷ rest) x (first_in x rest))) in
    let long : length c.deref-in-loop-store.result.now ≡ 65 = ap length c.deref-in-loop-store.ensures.value ∙ c.in_ok-first.ensures.long in
    omega (arith, low, long)

pub loop-store-init : goal.loop-store-init
loop-store-init c = record {
  is = c.in_ok-counting.ensures.items;
  rest = c.into_iter-store-iterator.ensures.into_iter_gives.0;
  len = omega (arith, c.into_iter-store-iterator.ensures.into_iter_gives.1, ap length c.into_iter-store-iterator.ensures.into_iter_gives.0);
}

pub loop-store-preserved : goal.loop-store-preserved
loop-store-preserved c =
    let ys = c.loop-store.yielded in
    let x = c.in-Some.store in
    let rest = into_iter_items c.next.new.self in
    let first : List ℕ = c.in_ok-first.first.items in
    record {
      is = c.in_ok-keep.ensures ∙ ap (λ (l : List ℕ). c.loop-store.counting.items ++ counting_among l (x ∷ [])) c.deref-in-loop-store.ensures.value
          ∙ ap (λ (l : List FoundStore). l ++ counting_among first (x ∷ [])) c.loop-store.invariant.is ∙ sym (filter-append (λ (y : FoundStore). nat_le (get_or first y.name.region 0) y.name.number) ys (x ∷ []));
      rest = append_assoc ys (x ∷ []) rest ∙ ap (λ (l : List FoundStore). ys ++ l) (sym c.in-Some.ensures.steps.0) ∙ c.loop-store.invariant.rest;
      len = omega (arith, c.in-Some.ensures.steps.1, ap length c.in-Some.ensures.steps.0, c.loop-store.invariant.len);
    }

pub returns : goal.returns
returns c =
    let stores = c.args.stores.items in
    let first : List ℕ = c.in_ok-first.first.items in
    let none : into_iter_items c.loop-store.store-iterator ≡ [] = nil_from_length (into_iter_items c.loop-store.store-iterator) (omega (arith, c.in-None.ensures.steps.0, c.loop-store.invariant.len)) in
    let all_yielded : stores ≡ c.loop-store.yielded = sym c.loop-store.invariant.rest ∙ ap (λ (l : List FoundStore). c.loop-store.yielded ++ l) none ∙ append-nil c.loop-store.yielded in
    let is : c.loop-store.counting.items ≡ counting_among first stores = c.loop-store.invariant.is ∙ ap (λ (l : List FoundStore). counting_among first l) (sym all_yielded) in
    let are : AreFirstNumbers stores first = subst (λ (l : List FoundStore). AreFirstNumbers l first) c.deref.ensures.value c.in_ok-first.ensures in
    subst (λ (l : List FoundStore). AreCounting stores l) (sym is) (are_counting stores first c.requires.regions are)
