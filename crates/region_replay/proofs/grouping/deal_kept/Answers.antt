use Rattle.std.proofs.Common.{◌≡◌, ◌∙◌, List, [], ◌∷◌, ◌++◌, length, sym, ap, subst, arith}
use Rattle.std.proofs.lemmas.List.{append_assoc, append-nil, nil_from_length}
use Rattle.std.specs.Vec.Iter.{into_iter_items}
use Rattle.log_model.specs.Entry.{Entry}
use Rattle.region_replay.proofs.InTurn.{next_of}
use Rattle.region_replay.specs.Dealt.{AreDealt, AddsEntry}
use Rattle.region_replay.proofs.Shares.{entry_dealt, deals_long}
use Rattle.region_replay.proofs.grouping.deal_kept.Goals as goal

pub loop-entry-preserved : goal.loop-entry-preserved
loop-entry-preserved c =
    let all = c.args.kept.items in
    let ys = c.loop-entry.yielded in
    let x = c.in-Some.entry in
    let rest = into_iter_items c.next.new.self in
    let is = next_of all ys x rest (into_iter_items c.loop-entry.entry-iterator) c.loop-entry.invariant.rest c.in-Some.ensures.steps.0 in
    let old = c.loop-entry.regions.items in
    let new = c.deal_entry.new.regions.items in
    let e = c.in_ok-deal_entry.ensures in
    record {
      long = (let was : length old ≡ 64 = omega (arith, c.loop-entry.invariant.long) in let now : length new ≡ 64 = deals_long x.region (AddsEntry x) old new e.dealt was in omega (arith, now));
      dealt = λ jobs flushed names stores start. entry_dealt jobs flushed names stores c.loop-entry.yielded old new x e.in_range.0 e.in_range.1 e.valid e.dealt (c.loop-entry.invariant.dealt jobs flushed names stores start);
      rest = append_assoc ys (x ∷ []) rest ∙ sym is;
      len = omega (arith, c.in-Some.ensures.steps.1, ap length c.in-Some.ensures.steps.0, c.loop-entry.invariant.len);
    }

pub loop-entry-init : goal.loop-entry-init
loop-entry-init c = record {
  long = c.requires;
  dealt = λ jobs flushed names stores start. start;
  rest = c.into_iter-entry-iterator.ensures.into_iter_gives.0;
  len = omega (arith, c.into_iter-entry-iterator.ensures.into_iter_gives.1, ap length c.into_iter-entry-iterator.ensures.into_iter_gives.0);
}

pub returns : goal.returns
returns c jobs flushed names stores start =
    let none : into_iter_items c.loop-entry.entry-iterator ≡ [] = nil_from_length (into_iter_items c.loop-entry.entry-iterator) (omega (arith, c.in-None.ensures.steps.0, c.loop-entry.invariant.len)) in
    let all_yielded : c.args.kept.items ≡ c.loop-entry.yielded = sym c.loop-entry.invariant.rest ∙ ap (λ (l : List Entry). c.loop-entry.yielded ++ l) none ∙ append-nil c.loop-entry.yielded in
    subst (λ (l : List Entry). AreDealt jobs flushed names stores l c.loop-entry.regions.items) (sym all_yielded) (c.loop-entry.invariant.dealt jobs flushed names stores start)
