use Rattle.std.proofs.Common.{◌≤◌, ℕ, Option, option_copied, get_or, set, refl, sym, ap, ◌∙◌, subst}
use Rattle.std.specs.Prelude.{sum, slice_set}
use Rattle.log_ledger.specs.Numbers.{Numbers, AreStoresFew}
use Rattle.log_ledger.specs.Counted.{IsCounted}
use Rattle.log_device.proofs.FlushSteps.{nothing_same, still_flushes}
use Rattle.log_device.proofs.FlushNumbers.{kept_numbers}
use Rattle.log_device.proofs.Numbering.{numbered_still}
use Rattle.log_device.proofs.Syncing.{same_history}
use Rattle.log_device.proofs.Told.{IsTold, told_place, none_given, some_given, kept_told, same_told_of, told_after}
use Rattle.log_device.proofs.device.Device.found_nothing.Goals as goal

pub invariant_of-self : goal.invariant_of-self
invariant_of-self g c =
    let stored = c.keep.ensures.stored ∙ ap (λ (b : Numbers). record b { stored = slice_set b.stored c.args.region (get_or b.synced c.args.region 0) }) c.deref_mut.ensures.value in record {
      numbered = λ file is. numbered_still file file c.args.self.now.ledger.value c.keep.new.self (c.args.self.now.numbered file is) refl refl (ap (λ (b : Numbers). sum b.drawn) stored) (ap (λ (b : Numbers). b.accounts.last) stored);
    }

pub returns-then-is_none-clause-flushes : goal.returns-then-is_none-clause-flushes
returns-then-is_none-clause-flushes g c told h whole none kept =
    let r = c.args.region in
    let family : Option _ = option_copied c.args.family in
    let number = c.synced-flushed.ensures.number ∙ ap (λ (b : Numbers). get_or b.synced c.args.region 0) c.deref.ensures in
    let last = number ∙ whole.counted.synced r c.requires.served in
    let stored = c.keep.ensures.stored ∙ ap (λ (b : Numbers). record b { stored = slice_set b.stored r (get_or b.synced r 0) }) c.deref_mut.ensures.value in
    let numbers = c.args.self.now.ledger.value in
    let told_of : IsTold r (option_copied c.args.family) c.synced-flushed.result numbers c.keep.new.self =
    kept_told r c.synced-flushed.result (option_copied c.args.family) numbers c.keep.new.self (none_given c.args.family c.is_none.result c.is_none.ensures c.if-is_none.true) (told_place numbers r c.requires.order c.requires.served)
    (ap (λ (b : Numbers). b.stored) stored ∙ ap (λ (n : ℕ). set numbers.stored r n) (sym number)) (subst (λ (n : ℕ). get_or numbers.stored r 0 ≤ n) (sym number) (c.requires.order.regions r).stored) in
    still_flushes g.D.Disk h r family _ c.args.self.now _ (g.met.D.Disk.is_true c.args.self.now.disk told) whole refl refl (λ n is. (sym (nothing_same _ n is) ∙ last, kept))
    (same_history g.D.Disk h c.args.self.now _ refl refl (ap (λ (b : Numbers). b.next_store) stored) (c.keep.ensures.counted h (subst (λ (b : Numbers). IsCounted b h) (sym c.deref_mut.ensures.value) whole.counted))
    (told_after r c.synced-flushed.result family c.args.self.now.ledger.value c.keep.new.self h told_of last whole.told) whole)

pub returns-then-is_none-clause-numbers : goal.returns-then-is_none-clause-numbers
returns-then-is_none-clause-numbers g c =
    let r = c.args.region in
    let stored = c.keep.ensures.stored ∙ ap (λ (b : Numbers). record b { stored = slice_set b.stored r (get_or b.synced r 0) }) c.deref_mut.ensures.value in
    let number = c.synced-flushed.ensures.number ∙ ap (λ (b : Numbers). get_or b.synced c.args.region 0) c.deref.ensures in
    let numbers = c.args.self.now.ledger.value in
    let told_of : IsTold r (option_copied c.args.family) c.synced-flushed.result numbers c.keep.new.self =
    kept_told r c.synced-flushed.result (option_copied c.args.family) numbers c.keep.new.self (none_given c.args.family c.is_none.result c.is_none.ensures c.if-is_none.true) (told_place numbers r c.requires.order c.requires.served)
    (ap (λ (b : Numbers). b.stored) stored ∙ ap (λ (n : ℕ). set numbers.stored r n) (sym number)) (subst (λ (n : ℕ). get_or numbers.stored r 0 ≤ n) (sym number) (c.requires.order.regions r).stored) in
    kept_numbers g.D.Disk r (option_copied c.args.family) c.args.self.now _ c.requires.rest refl (ap (λ (b : Numbers). b.drawn) stored) (ap (λ (b : Numbers). b.synced) stored) (ap (λ (b : Numbers). b.closed) stored)
    (λ limit was. c.keep.ensures.few limit (subst (λ (b : Numbers). AreStoresFew limit b) (sym c.deref_mut.ensures.value) was)) c.synced-flushed.result (number ∙ (λ i. get_or (c.requires.rest.synced i) r 0)) told_of (ap (λ (b : Numbers). b.next_store) stored)

pub returns-else-is_none-clause-flushes : goal.returns-else-is_none-clause-flushes
returns-else-is_none-clause-flushes g c told h whole none kept =
    let last = (c.synced-flushed.ensures.number ∙ ap (λ (b : Numbers). get_or b.synced c.args.region 0) c.deref.ensures) ∙ whole.counted.synced c.args.region c.requires.served in
    still_flushes g.D.Disk h c.args.region (option_copied c.args.family) _ c.args.self.now _ (g.met.D.Disk.is_true c.args.self.now.disk told) whole refl refl (λ n is. (sym (nothing_same _ n is) ∙ last, kept)) whole

pub returns-else-is_none-clause-numbers : goal.returns-else-is_none-clause-numbers
returns-else-is_none-clause-numbers g c =
    let number = c.synced-flushed.ensures.number ∙ ap (λ (b : Numbers). get_or b.synced c.args.region 0) c.deref.ensures in
    let some = some_given c.args.family c.is_none.result c.is_none.ensures c.if-is_none.false in
    kept_numbers g.D.Disk c.args.region (option_copied c.args.family) c.args.self.now c.args.self.now c.requires.rest refl refl refl refl (λ limit few. few) c.synced-flushed.result (number ∙ (λ i. get_or (c.requires.rest.synced i) c.args.region 0))
    (same_told_of c.args.region c.synced-flushed.result (option_copied c.args.family) some.0 c.args.self.now.ledger.value some.1) refl
