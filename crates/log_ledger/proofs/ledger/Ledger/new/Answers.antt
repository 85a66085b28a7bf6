use Rattle.std.proofs.Common.{◌≤◌, sym, ◌∙◌, List, subst}
use Rattle.std.specs.Prelude.{All, AllPairs}
use Rattle.seq_accounting.specs.declared.region.RegionMark.{RegionMark}
use Rattle.seq_accounting.specs.Accounts.{AreApart, AreFlushed}
use Rattle.log_ledger.specs.Numbers.{Numbers}
use Rattle.log_ledger.proofs.Bases.{marks_within, marks_apart}
use Rattle.log_ledger.proofs.Begun.{BegunWith, order_begun, served_begun, counted_begun, flushed_begun, few_begun}
use Rattle.log_ledger.proofs.ledger.Ledger.new.Goals as goal

pub new-requires-clause-within : goal.new-requires-clause-within
new-requires-clause-within c = subst (All (λ (m : RegionMark). m.region ≤ 64)) (sym (c.deref.ensures.value ∙ c.in_ok-marks.ensures)) (marks_within c.args.regions.now c.requires)

pub new-requires-clause-apart : goal.new-requires-clause-apart
new-requires-clause-apart c = subst (AllPairs AreApart) (sym (c.deref.ensures.value ∙ c.in_ok-marks.ensures)) (marks_apart c.args.regions.now c.requires.apart)

abbrev made : goal.After-next_stores_of → Numbers
made c = record {
  drawn = c.flushed_of-flushed.result;
  synced = c.flushed_of-flushed.result;
  stored = c.flushed_of-flushed.result;
  closed = c.flushed_of-flushed.result;
  next_store = c.next_stores_of.result;
  accounts = c.in-Ok.accounts;
  chains = c.in_ok-chains.chains;
}

begun : (c : goal.After-next_stores_of) → BegunWith c.args.regions.now (made c)
begun c = record {
  drawn = c.flushed_of-flushed.ensures.numbers;
  drawn_wide = c.flushed_of-flushed.ensures.wide;
  synced = λ i. c.flushed_of-flushed.result;
  stored = λ i. c.flushed_of-flushed.result;
  closed = λ i. c.flushed_of-flushed.result;
  next_store = c.next_stores_of.ensures.numbers;
  next_store_wide = c.next_stores_of.ensures.wide;
  whole = subst (λ (l : List RegionMark). AreFlushed l c.in-Ok.accounts.whole) (c.deref.ensures.value ∙ c.in_ok-marks.ensures) c.in-Ok.ensures.whole;
  flushed = c.in-Ok.ensures.flushed;
  noted = c.in-Ok.ensures.noted;
  flushing = c.in-Ok.ensures.flushing;
  current = c.in-Ok.ensures.current;
  history = c.in-Ok.ensures.history;
  order = c.in-Ok.ensures.order;
  files = c.in-Ok.ensures.closed;
  chains = c.in_ok-chains.ensures;
}

abbrev made_last : goal.After-drop-marks-2 → Numbers
made_last c = record {
  drawn = c.flushed_of-flushed.result;
  synced = c.flushed_of-flushed.result;
  stored = c.flushed_of-flushed.result;
  closed = c.flushed_of-flushed.result;
  next_store = c.next_stores_of.result;
  accounts = c.in-Ok.accounts;
  chains = c.in_ok-chains.chains;
}

begun_last : (c : goal.After-drop-marks-2) → BegunWith c.args.regions.now (made_last c)
begun_last c = record {
  drawn = c.flushed_of-flushed.ensures.numbers;
  drawn_wide = c.flushed_of-flushed.ensures.wide;
  synced = λ i. c.flushed_of-flushed.result;
  stored = λ i. c.flushed_of-flushed.result;
  closed = λ i. c.flushed_of-flushed.result;
  next_store = c.next_stores_of.ensures.numbers;
  next_store_wide = c.next_stores_of.ensures.wide;
  whole = subst (λ (l : List RegionMark). AreFlushed l c.in-Ok.accounts.whole) (c.deref.ensures.value ∙ c.in_ok-marks.ensures) c.in-Ok.ensures.whole;
  flushed = c.in-Ok.ensures.flushed;
  noted = c.in-Ok.ensures.noted;
  flushing = c.in-Ok.ensures.flushing;
  current = c.in-Ok.ensures.current;
  history = c.in-Ok.ensures.history;
  order = c.in-Ok.ensures.order;
  files = c.in-Ok.ensures.closed;
  chains = c.in_ok-chains.ensures;
}

pub invariant_of-result : goal.invariant_of-result
invariant_of-result c = order_begun c.args.regions.now (made c) c.requires (begun c)

pub returns-clause-counted : goal.returns-clause-counted
returns-clause-counted c = counted_begun c.args.regions.now (made_last c) c.requires (begun_last c)

pub returns-clause-served : goal.returns-clause-served
returns-clause-served c = served_begun c.args.regions.now (made_last c) c.requires (begun_last c)

pub returns-clause-flushed : goal.returns-clause-flushed
returns-clause-flushed c = flushed_begun c.args.regions.now (made_last c) (begun_last c)

pub returns-clause-few : goal.returns-clause-few
returns-clause-few c = few_begun c.args.regions.now (made_last c) (begun_last c)
