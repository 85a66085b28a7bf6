use Rattle.std.proofs.Common.{◌≡◌, ◌∙◌, List, [], ◌∷◌, ◌++◌, length, sym, ap, subst, arith}
use Rattle.std.proofs.lemmas.List.{append_assoc, append-nil, nil_from_length}
use Rattle.std.specs.Vec.Iter.{into_iter_items}
use Rattle.found_files.specs.declared.found.FoundStore.{FoundStore}
use Rattle.region_replay.specs.Dealt.{AreDealt, AddsStored}
use Rattle.region_replay.proofs.InTurn.{next_of, among_all}
use Rattle.region_replay.proofs.Sorting.{is_first}
use Rattle.region_replay.proofs.Shares.{store_dealt, deals_long}
use Rattle.region_replay.proofs.grouping.deal_stores.Goals as goal

pub deal_store-requires-clause-region : goal.deal_store-requires-clause-region
deal_store-requires-clause-region c =
    let all = c.args.stores.items in
    let ys = c.loop-store.yielded in
    let x = c.in-Some.store in
    let rest = into_iter_items c.next.new.self in
    let is = next_of all ys x rest (into_iter_items c.loop-store.store-iterator) c.loop-store.invariant.rest c.in-Some.ensures.steps.0 in
    c.requires.good x (among_all all ys x rest is x (is_first x rest))

pub loop-store-preserved : goal.loop-store-preserved
loop-store-preserved c =
    let all = c.args.stores.items in
    let ys = c.loop-store.yielded in
    let x = c.in-Some.store in
    let rest = into_iter_items c.next.new.self in
    let is = next_of all ys x rest (into_iter_items c.loop-store.store-iterator) c.loop-store.invariant.rest c.in-Some.ensures.steps.0 in
    let range = c.requires.good x (among_all all ys x rest is x (is_first x rest)) in
    let old = c.loop-store.regions.items in
    let new = c.deal_store.new.regions.items in
    record {
      long = (let was : length old ≡ 64 = omega (arith, c.loop-store.invariant.long) in let now : length new ≡ 64 = deals_long x.name.region (AddsStored x.text.cells) old new c.in_ok-deal_store.ensures was in omega (arith, now));
      dealt = λ jobs flushed names start. store_dealt jobs flushed names ys [] old new x range.0 range.1 c.in_ok-deal_store.ensures (c.loop-store.invariant.dealt jobs flushed names start);
      rest = append_assoc ys (x ∷ []) rest ∙ sym is;
      len = omega (arith, c.in-Some.ensures.steps.1, ap length c.in-Some.ensures.steps.0, c.loop-store.invariant.len);
    }

pub loop-store-init : goal.loop-store-init
loop-store-init c = record {
  long = c.requires.regions;
  dealt = λ jobs flushed names start. start;
  rest = c.into_iter-store-iterator.ensures.into_iter_gives.0;
  len = omega (arith, c.into_iter-store-iterator.ensures.into_iter_gives.1, ap length c.into_iter-store-iterator.ensures.into_iter_gives.0);
}

pub returns : goal.returns
returns c jobs flushed names start =
    let none : into_iter_items c.loop-store.store-iterator ≡ [] = nil_from_length (into_iter_items c.loop-store.store-iterator) (omega (arith, c.in-None.ensures.steps.0, c.loop-store.invariant.len)) in
    let all_yielded : c.args.stores.items ≡ c.loop-store.yielded = sym c.loop-store.invariant.rest ∙ ap (λ (l : List FoundStore). c.loop-store.yielded ++ l) none ∙ append-nil c.loop-store.yielded in
    subst (λ (l : List FoundStore). AreDealt jobs flushed names l [] c.loop-store.regions.items) (sym all_yielded) (c.loop-store.invariant.dealt jobs flushed names start)
