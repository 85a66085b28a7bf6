use Rattle.std.proofs.Common.{get_or, arith}
use Rattle.std.proofs.lemmas.List.{get_or_default}
use Rattle.std.proofs.lemmas.List.Elements.{Contains-get_or}
use Rattle.log_ledger.specs.declared.base.RegionBase.{RegionBase}
use Rattle.log_ledger.proofs.Bases.{numbers_none, numbers_more, numbers_all}
use Rattle.log_ledger.proofs.base.next_stores_of.Goals as goal

abbrev nobody : RegionBase
nobody = record { region = 0; flushed = 0; next_store = 0 }

pub loop-base-init : goal.loop-base-init
loop-base-init c = numbers_none (λ (m : RegionBase). m.next_store) c.args.regions.now

pub loop-base-preserved : goal.loop-base-preserved
loop-base-preserved c =
    let regions = c.args.regions.now in
    let i = c.loop-base.base-index in
    let m = get_or regions i nobody in
    let there = c.loop-base-test.true in
    numbers_more (λ (b : RegionBase). b.next_store) regions i c.loop-base.next m c.requires.apart there (get_or_default regions i nobody m there) (c.requires.each m (Contains-get_or regions i nobody there)).region c.loop-base.invariant

pub returns-clause-numbers : goal.returns-clause-numbers
returns-clause-numbers c = numbers_all (λ (m : RegionBase). m.next_store) _ _ _ (omega arith) c.loop-base.invariant

pub bounds-next-base : goal.bounds-next-base
bounds-next-base c =
    let regions = c.args.regions.now in
    let i = c.loop-base.base-index in
    omega (arith, (c.requires.each (get_or regions i nobody) (Contains-get_or regions i nobody c.loop-base-test.true)).region)
