use Rattle.std.proofs.Common.{◌+◌, ◌∙◌, IsTrue, Ok, Err, length, refl, sym, ap, arith}
use Rattle.std.specs.Prelude.{Result, OnOk}
use Rattle.std.specs.FinMap.{len, entries, len-entries}
use Rattle.std.proofs.lemmas.List.{length-map}
use Rattle.cell_model.specs.declared.form.Form.TheVariants.{Tagged}
use Rattle.cell_model.specs.Order.{Content, cell_of, cells_of}
use Rattle.log_model.specs.StoreText.{store_text}
use Rattle.store_compact.specs.Compacting.{kept_by}
use Rattle.store_compact.specs.Plan.{whole_store}
use Rattle.store_compact.proofs.Planning.{merged_store}
use Rattle.store_compact.proofs.InPlace.{none_done, absent, are_others, still_there, other_named, cells_stored, first_moments, first_moments_in, ready_to_go, all_moments, all_moments_in, done, done_in}
use Rattle.store_compact.proofs.InRegion.{none_done_in}
use Rattle.store_compact.proofs.replacing.replace_stores.Goals as goal

on_ok_two : {T E P Q R : Type 0} (r : Result T E) → (P → Q → R) → OnOk r P → OnOk r Q → OnOk r R
on_ok_two (Ok x) f p q = f p q
on_ok_two (Err e) f p q = tt

pub write_kept-requires-clause-absent : goal.write_kept-requires-clause-absent
write_kept-requires-clause-absent g c told =
    let v = g.D.Disk.view c.args.disk.now in
    (absent (IsTrue g.D.Disk.told) told v.files c.args.name c.args.names.now c.args.stores.items c.requires.these, (c.requires.rest told).none_gone c.args.name)

pub write_kept-requires-clause-store : goal.write_kept-requires-clause-store
write_kept-requires-clause-store g c =
    let is = c.deref-2.ensures ∙ c.in_ok-merged.ensures.content in
    merged_store c.args.name (omega arith) c.args.from c.args.to c.args.stores.items c.requires.these c.requires.covered c.deref-2.result.now is
    c.in_ok-merged.ensures.within

pub remove_stores-requires-clause-there : goal.remove_stores-requires-clause-there
remove_stores-requires-clause-there g c told =
    let v = g.D.Disk.view c.args.disk.now in
    let w = g.D.Disk.view c.write_kept.new.disk in
    still_there (IsTrue g.D.Disk.told) told v.files c.args.name c.args.names.now c.args.stores.items c.requires.these v w refl (c.write_kept.ensures.touches told)

pub returns-in_err-merged-clause-any_moment : goal.returns-in_err-merged-clause-any_moment
returns-in_err-merged-clause-any_moment g c told fit =
    let v = g.D.Disk.view c.args.disk.now in
    none_done v (c.requires.rest told) fit c.args.name.region c.args.kind

pub returns-in_err-after-clause-any_moment : goal.returns-in_err-after-clause-any_moment
returns-in_err-after-clause-any_moment g c told fit =
    let v = g.D.Disk.view c.args.disk.now in
    let w = g.D.Disk.view c.write_kept.new.disk in
    let is = c.deref-2.ensures ∙ c.in_ok-merged.ensures.content in
    let over = c.write_kept.ensures.any_moment told in
    first_moments told v (c.requires.rest told) c.args.name c.args.names.now c.args.stores.items c.requires.these c.args.from c.args.to c.requires.covered c.deref-2.result.now is c.args.kind c.write_kept.ensures.whole over.0 w over.1 fit

pub returns-in-Ok-clause-any_moment : goal.returns-in-Ok-clause-any_moment
returns-in-Ok-clause-any_moment g c told fit =
    let v = g.D.Disk.view c.args.disk.now in
    let w = g.D.Disk.view c.write_kept.new.disk in
    let x = g.D.Disk.view c.remove_stores.new.disk in
    let is = c.deref-2.ensures ∙ c.in_ok-merged.ensures.content in
    let over = c.write_kept.ensures.any_moment told in
    let second = c.remove_stores.ensures.any_moment told v.files c.args.name (store_text Tagged (whole_store c.args.name c.args.from c.args.to (kept_by c.args.kind (cells_of c.deref-2.result.now)))) (ready_to_go told v (c.requires.rest told) c.args.name c.args.names.now c.args.stores.items c.requires.these c.args.from c.args.to c.requires.covered c.deref-2.result.now is c.args.kind c.write_kept.ensures.whole over.0 w over.1 (g.met.D.Disk.is_true c.args.disk.now told) (c.write_kept.ensures.touches told) (c.in_ok-after.ensures.stored told)) (are_others (IsTrue g.D.Disk.told) told v.files c.args.name c.args.names.now c.args.stores.items c.requires.these) in
    all_moments told v (c.requires.rest told) c.args.name c.args.names.now c.args.stores.items c.requires.these c.args.from c.args.to c.requires.covered c.deref-2.result.now is c.args.kind c.write_kept.ensures.whole over.0 w over.1 fit (length c.args.names.now + 1) x second

pub returns-clause-any_moment : goal.returns-clause-any_moment
returns-clause-any_moment g c told fit =
    let v = g.D.Disk.view c.args.disk.now in
    let w = g.D.Disk.view c.write_kept.new.disk in
    let x = g.D.Disk.view c.remove_stores.new.disk in
    let is = c.deref-2.ensures ∙ c.in_ok-merged.ensures.content in
    let over = c.write_kept.ensures.any_moment told in
    let second = c.remove_stores.ensures.any_moment told v.files c.args.name (store_text Tagged (whole_store c.args.name c.args.from c.args.to (kept_by c.args.kind (cells_of c.deref-2.result.now)))) (ready_to_go told v (c.requires.rest told) c.args.name c.args.names.now c.args.stores.items c.requires.these c.args.from c.args.to c.requires.covered c.deref-2.result.now is c.args.kind c.write_kept.ensures.whole over.0 w over.1 (g.met.D.Disk.is_true c.args.disk.now told) (c.write_kept.ensures.touches told) (c.in_ok-after.ensures.stored told)) (are_others (IsTrue g.D.Disk.told) told v.files c.args.name c.args.names.now c.args.stores.items c.requires.these) in
    all_moments told v (c.requires.rest told) c.args.name c.args.names.now c.args.stores.items c.requires.these c.args.from c.args.to c.requires.covered c.deref-2.result.now is c.args.kind c.write_kept.ensures.whole over.0 w over.1 fit (length c.args.names.now + 1) x second

pub returns-in-Ok-clause-compacted : goal.returns-in-Ok-clause-compacted
returns-in-Ok-clause-compacted g c told fit =
    let v = g.D.Disk.view c.args.disk.now in
    let w = g.D.Disk.view c.write_kept.new.disk in
    let x = g.D.Disk.view c.remove_stores.new.disk in
    let is = c.deref-2.ensures ∙ c.in_ok-merged.ensures.content in
    let over = c.write_kept.ensures.any_moment told in
    let replaced = c.in-Ok.ensures.replaced told v.files c.args.name (store_text Tagged (whole_store c.args.name c.args.from c.args.to (kept_by c.args.kind (cells_of c.deref-2.result.now)))) (ready_to_go told v (c.requires.rest told) c.args.name c.args.names.now c.args.stores.items c.requires.these c.args.from c.args.to c.requires.covered c.deref-2.result.now is c.args.kind c.write_kept.ensures.whole over.0 w over.1 (g.met.D.Disk.is_true c.args.disk.now told) (c.write_kept.ensures.touches told) (c.in_ok-after.ensures.stored told)) (are_others (IsTrue g.D.Disk.told) told v.files c.args.name c.args.names.now c.args.stores.items c.requires.these) in
    λ J now. done told v (c.requires.rest told) c.args.name c.args.names.now c.args.stores.items c.requires.these c.args.from c.args.to c.requires.covered c.deref-2.result.now is c.args.kind c.write_kept.ensures.whole fit J (replaced J now) (λ m has store. c.in-Ok.ensures.gone told J m now has store)

pub returns-in_err-merged-clause-region : goal.returns-in_err-merged-clause-region
returns-in_err-merged-clause-region g c told =
    let v = g.D.Disk.view c.args.disk.now in
    none_done_in v (c.requires.rest told) c.args.name.region c.args.kind

pub returns-in_err-after-clause-region : goal.returns-in_err-after-clause-region
returns-in_err-after-clause-region g c told =
    let v = g.D.Disk.view c.args.disk.now in
    let w = g.D.Disk.view c.write_kept.new.disk in
    let is = c.deref-2.ensures ∙ c.in_ok-merged.ensures.content in
    let over = c.write_kept.ensures.any_moment told in
    first_moments_in told v (c.requires.rest told) c.args.name c.args.names.now c.args.stores.items c.requires.these c.args.from c.args.to c.requires.covered c.deref-2.result.now is c.args.kind c.write_kept.ensures.whole over.0 w over.1

pub returns-in-Ok-clause-region : goal.returns-in-Ok-clause-region
returns-in-Ok-clause-region g c told =
    let v = g.D.Disk.view c.args.disk.now in
    let w = g.D.Disk.view c.write_kept.new.disk in
    let x = g.D.Disk.view c.remove_stores.new.disk in
    let is = c.deref-2.ensures ∙ c.in_ok-merged.ensures.content in
    let over = c.write_kept.ensures.any_moment told in
    let second = c.remove_stores.ensures.any_moment told v.files c.args.name (store_text Tagged (whole_store c.args.name c.args.from c.args.to (kept_by c.args.kind (cells_of c.deref-2.result.now)))) (ready_to_go told v (c.requires.rest told) c.args.name c.args.names.now c.args.stores.items c.requires.these c.args.from c.args.to c.requires.covered c.deref-2.result.now is c.args.kind c.write_kept.ensures.whole over.0 w over.1 (g.met.D.Disk.is_true c.args.disk.now told) (c.write_kept.ensures.touches told) (c.in_ok-after.ensures.stored told)) (are_others (IsTrue g.D.Disk.told) told v.files c.args.name c.args.names.now c.args.stores.items c.requires.these) in
    all_moments_in told v (c.requires.rest told) c.args.name c.args.names.now c.args.stores.items c.requires.these c.args.from c.args.to c.requires.covered c.deref-2.result.now is c.args.kind c.write_kept.ensures.whole over.0 w over.1 (length c.args.names.now + 1) x second

pub returns-clause-region : goal.returns-clause-region
returns-clause-region g c told =
    let v = g.D.Disk.view c.args.disk.now in
    let w = g.D.Disk.view c.write_kept.new.disk in
    let x = g.D.Disk.view c.remove_stores.new.disk in
    let is = c.deref-2.ensures ∙ c.in_ok-merged.ensures.content in
    let over = c.write_kept.ensures.any_moment told in
    let second = c.remove_stores.ensures.any_moment told v.files c.args.name (store_text Tagged (whole_store c.args.name c.args.from c.args.to (kept_by c.args.kind (cells_of c.deref-2.result.now)))) (ready_to_go told v (c.requires.rest told) c.args.name c.args.names.now c.args.stores.items c.requires.these c.args.from c.args.to c.requires.covered c.deref-2.result.now is c.args.kind c.write_kept.ensures.whole over.0 w over.1 (g.met.D.Disk.is_true c.args.disk.now told) (c.write_kept.ensures.touches told) (c.in_ok-after.ensures.stored told)) (are_others (IsTrue g.D.Disk.told) told v.files c.args.name c.args.names.now c.args.stores.items c.requires.these) in
    all_moments_in told v (c.requires.rest told) c.args.name c.args.names.now c.args.stores.items c.requires.these c.args.from c.args.to c.requires.covered c.deref-2.result.now is c.args.kind c.write_kept.ensures.whole over.0 w over.1 (length c.args.names.now + 1) x second

pub returns-in-Ok-clause-region_compacted : goal.returns-in-Ok-clause-region_compacted
returns-in-Ok-clause-region_compacted g c told =
    let v = g.D.Disk.view c.args.disk.now in
    let w = g.D.Disk.view c.write_kept.new.disk in
    let x = g.D.Disk.view c.remove_stores.new.disk in
    let is = c.deref-2.ensures ∙ c.in_ok-merged.ensures.content in
    let over = c.write_kept.ensures.any_moment told in
    let replaced = c.in-Ok.ensures.replaced told v.files c.args.name (store_text Tagged (whole_store c.args.name c.args.from c.args.to (kept_by c.args.kind (cells_of c.deref-2.result.now)))) (ready_to_go told v (c.requires.rest told) c.args.name c.args.names.now c.args.stores.items c.requires.these c.args.from c.args.to c.requires.covered c.deref-2.result.now is c.args.kind c.write_kept.ensures.whole over.0 w over.1 (g.met.D.Disk.is_true c.args.disk.now told) (c.write_kept.ensures.touches told) (c.in_ok-after.ensures.stored told)) (are_others (IsTrue g.D.Disk.told) told v.files c.args.name c.args.names.now c.args.stores.items c.requires.these) in
    λ J now. done_in told v (c.requires.rest told) c.args.name c.args.names.now c.args.stores.items c.requires.these c.args.from c.args.to c.requires.covered c.deref-2.result.now is c.args.kind c.write_kept.ensures.whole J (replaced J now) (λ m has store. c.in-Ok.ensures.gone told J m now has store)

pub returns-in_err-after-clause-others : goal.returns-in_err-after-clause-others
returns-in_err-after-clause-others g c told m other =
    let v = g.D.Disk.view c.args.disk.now in
    (c.write_kept.ensures.touches told).others m (other_named (IsTrue g.D.Disk.told) told v.files c.args.name c.args.names.now c.args.stores.items c.requires.these m other).0

pub returns-in-Ok-clause-others : goal.returns-in-Ok-clause-others
returns-in-Ok-clause-others g c told m other =
    let v = g.D.Disk.view c.args.disk.now in
    let named = other_named (IsTrue g.D.Disk.told) told v.files c.args.name c.args.names.now c.args.stores.items c.requires.these m other in
    c.remove_stores.ensures.others told m named.1 ∙ (c.write_kept.ensures.touches told).others m named.0

pub returns-clause-others : goal.returns-clause-others
returns-clause-others g c told m other =
    let v = g.D.Disk.view c.args.disk.now in
    let named = other_named (IsTrue g.D.Disk.told) told v.files c.args.name c.args.names.now c.args.stores.items c.requires.these m other in
    c.remove_stores.ensures.others told m named.1 ∙ (c.write_kept.ensures.touches told).others m named.0

pub returns-in-Ok-clause-counts : goal.returns-in-Ok-clause-counts
returns-in-Ok-clause-counts g c told =
    let v = g.D.Disk.view c.args.disk.now in
    let is = c.deref-2.ensures ∙ c.in_ok-merged.ensures.content in
    record {
      cells = cells_of c.deref-2.result.now;
      stored = cells_stored told v (c.requires.rest told) c.args.name c.args.names.now c.args.stores.items c.requires.these c.args.from c.args.to c.requires.covered c.deref-2.result.now is c.args.kind c.write_kept.ensures.whole;
      before = c.len-before.ensures ∙ ap (λ (m : Content). len m) (c.deref.ensures ∙ sym c.deref-2.ensures) ∙ len-entries c.deref-2.result.now ∙ sym (length-map (entries c.deref-2.result.now) cell_of);
      after = c.in_ok-after.ensures.count;
    }
