use Rattle.std.proofs.Common.{◌∙◌, List, [], ◌∷◌, ◌++◌, Contains, take, sym, ap, subst, arith}
use Rattle.std.proofs.lemmas.List.{take_more}
use Rattle.std.proofs.lemmas.List.Elements.{Contains-get_or}
use Rattle.found_files.specs.declared.found.FoundStore.{FoundStore}
use Rattle.wal_split.specs.Flushed.{AreFlushed}
use Rattle.wal_split.proofs.Raising.{one_raised}
use Rattle.wal_split.proofs.flushed.flushed_numbers.Goals as goal

pub raise_at-requires : goal.raise_at-requires
raise_at-requires c =
    let stores = c.args.stores.now in
    let x = c.store-item.result in
    let low = c.requires x (subst (λ (y : FoundStore). Contains stores y) (sym c.store-item.is) (Contains-get_or stores c.loop-store.store-index x c.loop-store-test.true)) in
    omega (arith, low, c.loop-store.invariant.long)

pub loop-store-preserved : goal.loop-store-preserved
loop-store-preserved c =
    let stores = c.args.stores.now in
    let x = c.store-item.result in
    let i = c.loop-store.store-index in
    let low = c.requires x (subst (λ (y : FoundStore). Contains stores y) (sym c.store-item.is) (Contains-get_or stores i x c.loop-store-test.true)) in
    subst (λ (l : List FoundStore). AreFlushed l c.raise_at.new.flushed.items) (sym (take_more stores i x c.loop-store-test.true ∙ ap (λ (y : FoundStore). take i stores ++ y ∷ []) (sym c.store-item.is)))
    (one_raised (take i stores) x c.loop-store.flushed.items c.raise_at.new.flushed.items low c.loop-store.invariant c.in_ok-raise_at.ensures)
