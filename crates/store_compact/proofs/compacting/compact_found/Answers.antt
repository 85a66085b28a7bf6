use Rattle.std.proofs.Common.{◌≡◌, IsTrue, length, List, Contains, sym, ap, subst, arith}
use Rattle.log_model.specs.declared.name.Name.{Name}
use Rattle.found_files.specs.declared.found.FoundStore.{FoundStore}
use Rattle.region_replay.specs.Names.{store_name}
use Rattle.store_compact.specs.Compacting.{HasCounting}
use Rattle.store_compact.specs.Plan.{IsAbove, AreCovered, AreToReplace}
use Rattle.store_compact.proofs.Counting.{has_counting}
use Rattle.store_compact.proofs.Reading.{least_given, low_regions, to_replace}
use Rattle.store_compact.proofs.InPlace.{none_done}
use Rattle.store_compact.proofs.InRegion.{none_done_in}
use Rattle.store_compact.proofs.compacting.compact_found.Goals as goal

pub counting_stores-requires : goal.counting_stores-requires
counting_stores-requires g c =
    let v = g.D.Disk.view c.args.disk.now in
    record { regions = low_regions (IsTrue g.D.Disk.told) v.files c.args.region c.args.found.names.items c.args.found.files.entries.items c.args.found.files.stores.items c.requires.names c.requires.read c.requires.region }

pub range_of-from-requires : goal.range_of-from-requires
range_of-from-requires g c =
    (let least = least_given c.args.kind in let enough = c.is_too_few.ensures.enough c.if-is_too_few.false in omega (arith, least, enough, c.len-files.ensures, ap (λ (l : List FoundStore). length l) c.deref-2.ensures.value))

pub replace_stores-requires-clause-these : goal.replace_stores-requires-clause-these
replace_stores-requires-clause-these g c =
    let v = g.D.Disk.view c.args.disk.now in
    let these = to_replace (IsTrue g.D.Disk.told) v.files c.args.region c.args.found.names.items c.args.found.files.entries.items c.args.found.files.stores.items c.requires.names c.requires.read c.in_ok-stores.stores.items c.in-Ok.number c.in_ok-stores.ensures (subst (λ (l : List Name). IsAbove l c.in-Ok.number) c.deref.ensures.value c.in-Ok.ensures.above) in
    subst (λ (l : List Name). AreToReplace (IsTrue g.D.Disk.told) v.files (store_name c.args.region c.in-Ok.number) l c.in_ok-stores.stores.items) (sym c.deref-3.ensures.value) these

pub replace_stores-requires-clause-covered : goal.replace_stores-requires-clause-covered
replace_stores-requires-clause-covered g c =
    subst (λ (l : List FoundStore). AreCovered l c.range_of-from.result.0 c.range_of-from.result.1) c.deref-2.ensures.value c.range_of-from.ensures

pub returns-in-Err-clause-any_moment : goal.returns-in-Err-clause-any_moment
returns-in-Err-clause-any_moment g c told fit =
    let v = g.D.Disk.view c.args.disk.now in
    none_done v (c.requires.rest told) fit c.args.region c.args.kind

pub returns-in_err-stores-clause-any_moment : goal.returns-in_err-stores-clause-any_moment
returns-in_err-stores-clause-any_moment g c told fit =
    let v = g.D.Disk.view c.args.disk.now in
    none_done v (c.requires.rest told) fit c.args.region c.args.kind

pub returns-then-is_too_few-clause-any_moment : goal.returns-then-is_too_few-clause-any_moment
returns-then-is_too_few-clause-any_moment g c told fit =
    let v = g.D.Disk.view c.args.disk.now in
    none_done v (c.requires.rest told) fit c.args.region c.args.kind

pub returns-in-Err-clause-region : goal.returns-in-Err-clause-region
returns-in-Err-clause-region g c told =
    let v = g.D.Disk.view c.args.disk.now in
    none_done_in v (c.requires.rest told) c.args.region c.args.kind

pub returns-in_err-stores-clause-region : goal.returns-in_err-stores-clause-region
returns-in_err-stores-clause-region g c told =
    let v = g.D.Disk.view c.args.disk.now in
    none_done_in v (c.requires.rest told) c.args.region c.args.kind

pub returns-then-is_too_few-clause-region : goal.returns-then-is_too_few-clause-region
returns-then-is_too_few-clause-region g c told =
    let v = g.D.Disk.view c.args.disk.now in
    none_done_in v (c.requires.rest told) c.args.region c.args.kind

pub returns-then-is_too_few-clause-nothing : goal.returns-then-is_too_few-clause-nothing
returns-then-is_too_few-clause-nothing g c told =
    let same : length c.in_ok-stores.stores.items ≡ c.len-files.result = omega (arith, c.len-files.ensures) in
    let v = g.D.Disk.view c.args.disk.now in
    let these = to_replace (IsTrue g.D.Disk.told) v.files c.args.region c.args.found.names.items c.args.found.files.entries.items c.args.found.files.stores.items c.requires.names c.requires.read c.in_ok-stores.stores.items c.in-Ok.number c.in_ok-stores.ensures (subst (λ (l : List Name). IsAbove l c.in-Ok.number) c.deref.ensures.value c.in-Ok.ensures.above) in (
      subst (λ n. HasCounting v.files c.args.region n) same (has_counting v.files c.args.region c.in_ok-stores.stores.items (these.counting told) (these.in_order told) (λ x has. (these.each x has).2)),
      c.is_too_few.ensures.few c.if-is_too_few.true,
    )

pub returns-in-Ok-replace_stores-clause-enough : goal.returns-in-Ok-replace_stores-clause-enough
returns-in-Ok-replace_stores-clause-enough g c told =
    let v = g.D.Disk.view c.args.disk.now in
    let these = to_replace (IsTrue g.D.Disk.told) v.files c.args.region c.args.found.names.items c.args.found.files.entries.items c.args.found.files.stores.items c.requires.names c.requires.read c.in_ok-stores.stores.items c.in-Ok.number c.in_ok-stores.ensures (subst (λ (l : List Name). IsAbove l c.in-Ok.number) c.deref.ensures.value c.in-Ok.ensures.above) in (
      length c.in_ok-stores.stores.items,
      has_counting v.files c.args.region c.in_ok-stores.stores.items (these.counting told) (these.in_order told) (λ x has. (these.each x has).2),
      (let enough = c.is_too_few.ensures.enough c.if-is_too_few.false in omega (arith, enough, c.len-files.ensures)),
    )

pub returns-in-Err-clause-undamaged : goal.returns-in-Err-clause-undamaged
returns-in-Err-clause-undamaged g c told =
    let high = c.in-Err.ensures.high in
    let low = (c.requires.rest told).small c.in-Err.name (c.requires.names.there told c.in-Err.name (subst (λ (l : List Name). Contains l c.in-Err.name) c.deref.ensures.value high.0)) in
    let over = high.1 in
    absurd (omega (arith, low, over))
