use Rattle.std.proofs.Common.{◌∙◌, inl, inr, List, [], ◌∷◌, ◌++◌, Contains, take, sym, ap, subst, arith}
use Rattle.std.proofs.lemmas.Bool.{cases_eq}
use Rattle.std.proofs.lemmas.List.{take_more, take_all}
use Rattle.std.proofs.lemmas.List.Elements.{Contains-get_or}
use Rattle.found_files.specs.declared.found.FoundStore.{FoundStore}
use Rattle.found_files.specs.Counting.{AreFirstNumbers}
use Rattle.found_files.proofs.Replaced.{none_replaced, one_replaced, not_replaced}
use Rattle.found_files.proofs.counting.first_numbers.Goals as goal

pub raise-requires : goal.raise-requires
raise-requires c =
    let stores = c.args.stores.now in
    let x = c.store-item.result in
    let low = c.requires x (subst (λ (y : FoundStore). Contains stores y) (sym c.store-item.is) (Contains-get_or stores c.loop-store.store-index x c.loop-store-test.true)) in
    omega (arith, low, c.loop-store.invariant.long)

pub loop-store-init : goal.loop-store-init
loop-store-init c = none_replaced c.in_ok-first.first.items (c.in_ok-first.ensures.items_if_clones_equal (λ y is. is))

pub loop-store-preserved : goal.loop-store-preserved
loop-store-preserved c =
    let stores = c.args.stores.now in
    let x = c.store-item.result in
    let i = c.loop-store.store-index in
    let low = c.requires x (subst (λ (y : FoundStore). Contains stores y) (sym c.store-item.is) (Contains-get_or stores i x c.loop-store-test.true)) in
    subst (λ (l : List FoundStore). AreFirstNumbers l c.raise.new.first.items) (sym (take_more stores i x c.loop-store-test.true ∙ ap (λ (y : FoundStore). take i stores ++ y ∷ []) (sym c.store-item.is)))
    (elim (cases_eq x.text.scope 1) as (λ _. AreFirstNumbers (take i stores ++ x ∷ []) c.raise.new.first.items) [
      | inl scope ↦ one_replaced (take i stores) x c.loop-store.first.items c.raise.new.first.items low c.loop-store.invariant scope (c.raise.ensures.replaces scope)
      | inr other ↦ not_replaced (take i stores) x c.loop-store.first.items c.raise.new.first.items low c.loop-store.invariant other (c.raise.ensures.other other)
    ])

pub returns : goal.returns
returns c =
    subst (λ (l : List FoundStore). AreFirstNumbers l c.loop-store.first.items) (take_all c.loop-store.store-index c.args.stores.now c.loop-store-test.false) c.loop-store.invariant
