use Rattle.std.proofs.Common.{◌∙◌, List, Contains, refl, ap, subst, arith}
use Rattle.std.proofs.lemmas.List.{get_or_default}
use Rattle.log_model.specs.declared.name.Name.{Name}
use Rattle.found_files.specs.declared.found.FoundStore.{FoundStore}
use Rattle.wal_split.specs.declared.flushed.RegionFlushed.{RegionFlushed}
use Rattle.wal_split.specs.Flushed.{AreFlushed}
use Rattle.wal_split.specs.Unflushed.{AreUnflushedOf}
use Rattle.region_replay.specs.Alone.{IsNextStore, edits_among}
use Rattle.region_replay.proofs.alone.region_of.Goals as goal

pub flushed_numbers-requires : goal.flushed_numbers-requires
flushed_numbers-requires c y has = c.requires.stores y (c.in_ok-stores.ensures.each y (subst (λ (l : List FoundStore). Contains l y) c.deref-3.ensures.value has)).0

pub returns : goal.returns
returns c =
    let found = c.args.found in
    let numbers = c.in_ok-numbers.numbers.items in
    let logged = c.in_ok-pending.pending.logged.items in
    let kept = c.in_ok-pending.pending.kept.items in
    record {
      region = refl;
      stored = c.in_ok-stored.ensures;
      ss = c.in_ok-stores.stores.items;
      counting = c.in_ok-stores.ensures;
      flushed = numbers;
      are_flushed = subst (λ (l : List FoundStore). AreFlushed l numbers) c.deref-3.ensures.value c.in_ok-numbers.ensures;
      upto = λ d. c.swap_remove-flushed.ensures.value ∙ get_or_default numbers c.args.region c.swap_remove-flushed.result d (let long = c.in_ok-numbers.ensures.long in omega (arith, long, c.requires.region));
      logged = logged;
      kept = kept;
      parts = subst (λ (l : List RegionFlushed). AreUnflushedOf found.files.entries.items l logged kept) c.deref-4.ensures.value c.in_ok-pending.ensures;
      unflushed = c.in_ok-unflushed.ensures.of;
      valid = c.in_ok-unflushed.ensures.valid;
      edits = c.in_ok-edits.ensures ∙ ap edits_among c.deref-2.ensures.value;
      next = subst (λ (l : List Name). IsNextStore l c.in_ok-next_store.next_store) c.deref.ensures.value c.in_ok-next_store.ensures;
    }
