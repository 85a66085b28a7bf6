use Rattle.std.proofs.Common.{◌≡◌, ◌+◌, ◌<◌, ◌≤◌, ℕ, List, [], length, set, Option, option_copied, Err, get_or, refl, sym, ap, ◌∙◌, subst, arith}
use Rattle.std.specs.Prelude.{sum}
use Rattle.std.proofs.Math.Logic.{∥∥₁_elim}
use Rattle.log_model.specs.Files.{content, IsAbsent}
use Rattle.disk_images.specs.OneFile.{IsDurableFile}
use Rattle.file_base.specs.declared.error.FileRefusal.{FileRefusal}
use Rattle.log_ledger.specs.Numbers.{Numbers, IsServed, IsLeft, AreStoresFew}
use Rattle.log_device.specs.declared.error.DeviceFlush.TheVariants as refusals
use Rattle.log_ledger.specs.Counted.{IsCounted}
use Rattle.flush_snapshot.specs.Cut.{AreOf, cut_store, ordered_cells}
use Rattle.store_file.specs.Whole.{IsWholeOrNot}
use Rattle.cell_model.specs.declared.form.Form.TheVariants.{Tagged}
use Rattle.log_model.specs.StoreText.{store_text}
use Rattle.log_ledger.specs.History.{History, family_in, flushed_in}
use Rattle.log_device.specs.Keeps.{store_name}
use Rattle.log_device.specs.Whole.{IsWhole}
use Rattle.log_device.proofs.Appends.{store_stays}
use Rattle.log_device.proofs.Disk.{absent_by}
use Rattle.log_device.proofs.FlushSteps.{still_flushes, memory_apart, fault_apart, no_fault}
use Rattle.log_device.proofs.FlushNumbers.{flush_numbers, refused_numbers, broken_numbers}
use Rattle.log_device.proofs.Breaking.{unharmed, fault_breaks}
use Rattle.log_device.proofs.Results.{ok_apart, some_apart, err_same}
use Rattle.seq_accounting.specs.Accounts.{flushed_at}
use Rattle.log_device.proofs.Told.{IsTold, served_low, store_place, family_short, flush_told, told_after, still_served}
use Rattle.log_device.proofs.Numbering.{numbered_still}
use Rattle.log_device.proofs.Stored.{free_store}
use Rattle.log_device.proofs.StoreSteps.{all_committed, cut_range, cut_within, disk_fault_apart, is_last, stored_leaves, stored_kept, store_names_of}
use Rattle.log_device.proofs.Syncing.{same_history}
use Rattle.log_device.proofs.Whole.{kept_file}
use Rattle.log_device.proofs.device.Device.write_store.Goals as goal

pub flushed-from-requires : goal.flushed-from-requires
flushed-from-requires g c = served_low c.args.self.now.ledger.value c.args.region c.requires.order c.requires.served

pub drawn-to-requires : goal.drawn-to-requires
drawn-to-requires g c = served_low c.args.self.now.ledger.value c.args.region c.requires.order c.requires.served

pub next_store-requires : goal.next_store-requires
next_store-requires g c = served_low c.args.self.now.ledger.value c.args.region c.requires.order c.requires.served

pub overflow_add-from : goal.overflow_add-from
overflow_add-from g c = omega (arith, c.flushed-from.ensures.limit)

pub write_cut-requires-clause-absent : goal.write_cut-requires-clause-absent
write_cut-requires-clause-absent g c told =
    let u = g.D.Disk.view c.args.self.now.disk in
    let sound = g.met.D.Disk.is_true c.args.self.now.disk told in
    let ns = c.args.self.now.ledger.value.next_store in
    let free : (r : (h : History) × IsWhole c.args.self.now u h × (h.kept.staged ≡ [])) → IsAbsent u.files (store_name c.args.region (get_or ns c.args.region 0)) × (u.gone (store_name c.args.region (get_or ns c.args.region 0)) → ⊥) =
    λ r. free_store r.1.file u r.0 ns r.1.keeps sound c.args.region c.requires.served in
    subst (λ (n : ℕ). IsAbsent u.files (store_name c.args.region n) × (u.gone (store_name c.args.region n) → ⊥)) (sym (c.next_store.ensures.number ∙ ap (λ (b : Numbers). get_or b.next_store c.args.region 0) c.deref-ledger.ensures))
    (absent_by (content u.files (store_name c.args.region (get_or ns c.args.region 0))) (c.requires.rest.whole told) (λ r. (free r).0), λ gone. ∥∥₁_elim (c.requires.rest.whole told) (λ a b. absurd a) (λ r. (free r).1 gone))

pub write_cut-requires-clause-of : goal.write_cut-requires-clause-of
write_cut-requires-clause-of g c = subst (λ (f : List ℕ). AreOf f c.args.cells) (sym c.name_of-own.ensures) c.requires.of

pub invariant_of-self : goal.invariant_of-self
invariant_of-self g c = record {
  numbered = λ file is.
      numbered_still file file c.args.self.now.ledger.value c.flush.new.self (c.args.self.now.numbered file is) refl refl (ap sum (rw c.deref_mut.ensures.value at c.flush.ensures.drawn)) (rw c.deref_mut.ensures.value at c.flush.ensures.files.last);
}

pub returns-in-Ok-clause-flushes : goal.returns-in-Ok-clause-flushes
returns-in-Ok-clause-flushes g c told h whole none has puts =
    let u = g.D.Disk.view c.args.self.now.disk in
    let w = g.D.Disk.view c.write_cut.new.disk in
    let r = c.args.region in
    let family : Option (List ℕ) = option_copied c.args.family in
    let numbers = c.args.self.now.ledger.value in
    let from = ap (λ (n : ℕ). n + 1) (c.flushed-from.ensures.number ∙ (λ i. flushed_at (c.deref-ledger.ensures i).accounts c.args.region (c.name_of-own.ensures i))) in
    let to = c.drawn-to.ensures.number ∙ ap (λ (b : Numbers). get_or b.drawn r 0) c.deref-ledger.ensures in
    let number = c.next_store.ensures.number ∙ ap (λ (b : Numbers). get_or b.next_store r 0) c.deref-ledger.ensures in
    let told_of : IsTold r (option_copied c.args.family) c.drawn-to.result numbers c.flush.new.self =
    flush_told r c.drawn-to.result c.args.family c.args.room numbers c.deref_mut.result.now c.flush.new.self c.deref_mut.ensures.value c.requires.room to c.requires.order c.requires.served c.requires.family c.requires.above
    c.flush.ensures.stored c.flush.ensures.stored_still in
    let sound = g.met.D.Disk.is_true c.args.self.now.disk told in
    let over = rw c.name_of-own.ensures at (c.write_cut.ensures.any_moment told) in
    let is_store = rw c.name_of-own.ensures at (c.write_cut.ensures.store (λ memory. ok_apart (sym c.in-Ok.is ∙ memory))) in
    let durable = rw c.name_of-own.ensures at (c.in-Ok.ensures.stored told) in
    let last = is_last whole.file u w h numbers whole.keeps whole.counted sound r (family_in family) c.args.cells none puts c.requires.served (c.flushed-from.result + 1) c.drawn-to.result c.next_store.result to number in
    record {
      any_moment = stored_leaves whole.file u w h numbers whole.keeps whole.counted sound r (family_in family) c.args.cells none puts c.requires.served (c.flushed-from.result + 1) c.drawn-to.result c.next_store.result to number is_store over;
      names = λ file is.
          store_names_of file u w h numbers.next_store (kept_file c.args.self.now u h file is whole) r c.next_store.result c.requires.served number
          (IsWholeOrNot (store_text Tagged (cut_store (store_name r c.next_store.result) (family_in family) (c.flushed-from.result + 1) c.drawn-to.result c.args.cells))) (7 + length (ordered_cells c.args.cells)) over;
      flushed = (
        last,
        has,
        record {
          file = whole.file;
          is = whole.is;
          keeps = stored_kept whole.file u w h numbers whole.keeps whole.counted sound r (family_in family) c.args.cells none puts c.requires.served (c.flushed-from.result + 1) c.drawn-to.result c.next_store.result to number is_store
              c.flush.new.self.next_store (rw c.deref_mut.ensures.value at c.flush.ensures.next_store) over (c.write_cut.ensures.touches told) durable;
          counted = subst (λ (n : ℕ). IsCounted c.flush.new.self (flushed_in h r (family_in family) n)) (sym to) (rw c.requires.room at ((rw c.deref_mut.ensures.value at c.flush.ensures.counted) h whole.counted none));
          told = told_after r c.drawn-to.result family numbers c.flush.new.self h told_of last whole.told;
        },
      );
      store =
          let store = cut_store (store_name r c.next_store.result) (family_in family) (c.flushed-from.result + 1) c.drawn-to.result c.args.cells in record {
            store = store;
            region = refl;
            scope = refl;
            of = refl;
            from = from ∙ ap (λ (n : ℕ). n + 1) (whole.counted.flushed r (family_in family) c.requires.served);
            to = refl;
            file = subst (λ (n : ℕ). IsDurableFile w (store_name r n) (store_text Tagged store)) number durable;
          };
      nothing = λ n is. absurd (ok_apart is);
      refused = tt;
      lower = λ file is k low. store_stays (store_name r c.next_store.result) u.files w.files refl (c.write_cut.ensures.touches told).others k;
    }

pub returns-in-Ok-clause-numbers : goal.returns-in-Ok-clause-numbers
returns-in-Ok-clause-numbers g c =
    let numbers = c.args.self.now.ledger.value in
    let r = c.args.region in
    let to = c.drawn-to.ensures.number ∙ ap (λ (b : Numbers). get_or b.drawn r 0) c.deref-ledger.ensures in
    let told_of : IsTold r (option_copied c.args.family) c.drawn-to.result numbers c.flush.new.self =
    flush_told r c.drawn-to.result c.args.family c.args.room numbers c.deref_mut.result.now c.flush.new.self c.deref_mut.ensures.value c.requires.room to c.requires.order c.requires.served c.requires.family c.requires.above
    c.flush.ensures.stored c.flush.ensures.stored_still in
    let stores = subst (λ (b : Numbers). c.flush.new.self.next_store ≡ set b.next_store r (get_or b.next_store r 0 + 1)) c.deref_mut.ensures.value c.flush.ensures.next_store in
    flush_numbers g.D.Disk r (option_copied c.args.family) c.args.self.now _ c.requires.rest refl (c.flush.ensures.drawn ∙ ap (λ (b : Numbers). b.drawn) c.deref_mut.ensures.value)
    (c.flush.ensures.synced ∙ ap (λ (b : Numbers). b.synced) c.deref_mut.ensures.value) (c.flush.ensures.closed ∙ ap (λ (b : Numbers). b.closed) c.deref_mut.ensures.value)
    (λ limit was. c.flush.ensures.few limit (subst (λ (b : Numbers). AreStoresFew limit b) (sym c.deref_mut.ensures.value) was)) c.drawn-to.result to
    (λ all. subst (λ (n : ℕ). get_or numbers.stored r 0 < n) (sym to) (c.requires.above all)) told_of stores (still_served numbers c.flush.new.self r (store_place numbers r c.requires.order c.requires.served) stores)

pub returns-in-Err-Memory-clause-flushes : goal.returns-in-Err-Memory-clause-flushes
returns-in-Err-Memory-clause-flushes g c told h whole none has puts =
    let same = c.write_cut.ensures.memory (c.in-Err-Memory.is ∙ ap (λ (e : FileRefusal). Err e) c.in-Err-Memory.field-0-is) in
    still_flushes g.D.Disk h c.args.region (option_copied c.args.family) _ c.args.self.now _ (g.met.D.Disk.is_true c.args.self.now.disk told) whole same refl (λ n is. absurd (memory_apart n (err_same is)))
    (same_history g.D.Disk h c.args.self.now _ same refl refl whole.counted whole.told whole)

pub returns-clause-flushes : goal.returns-clause-flushes
returns-clause-flushes g c told h whole none has puts =
    let u = g.D.Disk.view c.args.self.now.disk in
    let w = g.D.Disk.view c.write_cut.new.disk in
    let r = c.args.region in
    let family : Option (List ℕ) = option_copied c.args.family in
    let numbers = c.args.self.now.ledger.value in
    let to = c.drawn-to.ensures.number ∙ ap (λ (b : Numbers). get_or b.drawn r 0) c.deref-ledger.ensures in
    let number = c.next_store.ensures.number ∙ ap (λ (b : Numbers). get_or b.next_store r 0) c.deref-ledger.ensures in
    let sound = g.met.D.Disk.is_true c.args.self.now.disk told in
    let over = rw c.name_of-own.ensures at (c.write_cut.ensures.any_moment told) in
    let is_store =
    rw c.name_of-own.ensures at (c.write_cut.ensures.store (λ memory. disk_fault_apart (err_same (sym (c.in-Err-DiskFault.is ∙ ap (λ (e : FileRefusal). Err e) c.in-Err-DiskFault.field-0-is) ∙ memory)))) in
    record {
      any_moment = stored_leaves whole.file u w h numbers whole.keeps whole.counted sound r (family_in family) c.args.cells none puts c.requires.served (c.flushed-from.result + 1) c.drawn-to.result c.next_store.result to number is_store over;
      names = λ file is.
          store_names_of file u w h numbers.next_store (kept_file c.args.self.now u h file is whole) r c.next_store.result c.requires.served number
          (IsWholeOrNot (store_text Tagged (cut_store (store_name r c.next_store.result) (family_in family) (c.flushed-from.result + 1) c.drawn-to.result c.args.cells))) (7 + length (ordered_cells c.args.cells)) over;
      flushed = tt;
      store = tt;
      nothing = λ n is. absurd (fault_apart n (err_same is));
      refused = λ unbroken. absurd (unbroken refl);
      lower = λ file is k low. store_stays (store_name r c.next_store.result) u.files w.files refl (c.write_cut.ensures.touches told).others k;
    }

pub flush-requires-clause-left : goal.flush-requires-clause-left
flush-requires-clause-left g c =
    subst (λ (b : Numbers). IsLeft b c.args.region c.args.room) (sym c.deref_mut.ensures.value) (subst (λ (f : List ℕ). IsLeft c.args.self.now.ledger.value c.args.region f) (sym c.requires.room) c.requires.left)

pub returns-in-Err-Memory-clause-memory : goal.returns-in-Err-Memory-clause-memory
returns-in-Err-Memory-clause-memory g c memory = c.write_cut.ensures.memory (c.in-Err-Memory.is ∙ ap (λ (e : FileRefusal). Err e) c.in-Err-Memory.field-0-is)

pub returns-in-Ok-clause-logs : goal.returns-in-Ok-clause-logs
returns-in-Ok-clause-logs g c told =
    store_stays (store_name c.args.region c.next_store.result) (g.D.Disk.view c.args.self.now.disk).files (g.D.Disk.view c.write_cut.new.disk).files refl (c.write_cut.ensures.touches told).others

pub returns-in-Err-Memory-clause-logs : goal.returns-in-Err-Memory-clause-logs
returns-in-Err-Memory-clause-logs g c told =
    store_stays (store_name c.args.region c.next_store.result) (g.D.Disk.view c.args.self.now.disk).files (g.D.Disk.view c.write_cut.new.disk).files refl (c.write_cut.ensures.touches told).others

pub write_cut-requires-clause-kind : goal.write_cut-requires-clause-kind
write_cut-requires-clause-kind g c = refl

pub write_cut-requires-clause-family : goal.write_cut-requires-clause-family
write_cut-requires-clause-family g c = subst (λ (f : List ℕ). length f ≤ 127) (sym c.name_of-own.ensures) (family_short c.args.family c.requires.family)

pub write_cut-requires-clause-range : goal.write_cut-requires-clause-range
write_cut-requires-clause-range g c =
    cut_range c.flushed-from.result c.drawn-to.result _ _ (c.flushed-from.ensures.number ∙ (λ i. flushed_at (c.deref-ledger.ensures i).accounts c.args.region (c.name_of-own.ensures i)))
    (c.drawn-to.ensures.number ∙ ap (λ (b : Numbers). get_or b.drawn c.args.region 0) c.deref-ledger.ensures) c.requires.low c.drawn-to.ensures.limit

pub write_cut-requires-clause-within : goal.write_cut-requires-clause-within
write_cut-requires-clause-within g c =
    cut_within c.flushed-from.result c.drawn-to.result _ _ c.args.cells (c.flushed-from.ensures.number ∙ (λ i. flushed_at (c.deref-ledger.ensures i).accounts c.args.region (c.name_of-own.ensures i)))
    (c.drawn-to.ensures.number ∙ ap (λ (b : Numbers). get_or b.drawn c.args.region 0) c.deref-ledger.ensures) c.requires.within

pub flush-requires-clause-served : goal.flush-requires-clause-served
flush-requires-clause-served g c = subst (λ (b : Numbers). IsServed b c.args.region) (sym c.deref_mut.ensures.value) c.requires.served

pub flush-requires-clause-committed : goal.flush-requires-clause-committed
flush-requires-clause-committed g c =
    subst (λ (b : Numbers). get_or b.drawn c.args.region 0 ≤ get_or b.synced c.args.region 0) (sym c.deref_mut.ensures.value) (all_committed c.args.self.now.ledger.value c.args.region c.requires.rest.synced)

pub returns-in-Ok-clause-memory : goal.returns-in-Ok-clause-memory
returns-in-Ok-clause-memory g c memory = absurd (ok_apart memory)

pub returns-in-Ok-clause-breaks : goal.returns-in-Ok-clause-breaks
returns-in-Ok-clause-breaks g c = unharmed g.D.Disk c.args.self.now _ c.requires.rest.unbroken c.requires.rest.unbroken c.write_cut.ensures.cause ok_apart

pub invariant_of-self-in-Err-Memory : goal.invariant_of-self-in-Err-Memory
invariant_of-self-in-Err-Memory g c = record { numbered = c.args.self.now.numbered }

pub returns-in-Err-Memory-clause-numbers : goal.returns-in-Err-Memory-clause-numbers
returns-in-Err-Memory-clause-numbers g c =
    refused_numbers g.D.Disk c.args.region (option_copied c.args.family) c.args.self.now _ c.requires.rest refl refl refl refl (λ limit was. was) refusals.Memory memory_apart refl refl

pub returns-in-Err-Memory-clause-breaks : goal.returns-in-Err-Memory-clause-breaks
returns-in-Err-Memory-clause-breaks g c = unharmed g.D.Disk c.args.self.now _ c.requires.rest.unbroken c.requires.rest.unbroken c.write_cut.ensures.cause (λ is. no_fault (err_same is))

pub invariant_of-self-in-Err-DiskFault : goal.invariant_of-self-in-Err-DiskFault
invariant_of-self-in-Err-DiskFault g c = record { numbered = λ file is. absurd (some_apart is) }

pub returns-clause-numbers : goal.returns-clause-numbers
returns-clause-numbers g c = broken_numbers c.args.region (option_copied c.args.family) c.args.self.now _ refl refl

pub returns-clause-logs : goal.returns-clause-logs
returns-clause-logs g c told =
    store_stays (store_name c.args.region c.next_store.result) (g.D.Disk.view c.args.self.now.disk).files (g.D.Disk.view c.write_cut.new.disk).files refl (c.write_cut.ensures.touches told).others

pub returns-clause-memory : goal.returns-clause-memory
returns-clause-memory g c memory = absurd (no_fault (sym (err_same memory)))

pub returns-clause-breaks : goal.returns-clause-breaks
returns-clause-breaks g c =
    fault_breaks g.D.Disk c.args.self.now _ c.requires.rest.unbroken refl c.write_cut.ensures.cause (c.in-Err-DiskFault.is ∙ ap (λ (e : FileRefusal). Err e) c.in-Err-DiskFault.field-0-is) refl
