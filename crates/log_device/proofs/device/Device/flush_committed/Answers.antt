use Rattle.std.proofs.Common.{◌≡◌, ◌<◌, [], option_copied, get_or, refl, sym, ap, ◌∙◌, subst}
use Rattle.std.proofs.lemmas.List.Elements.{Contains-append_left}
use Rattle.chronicle_model.specs.Chronicle.{bytes_of}
use Rattle.log_device.specs.declared.error.DeviceFlush.TheVariants as refusals
use Rattle.log_ledger.specs.History.{family_in}
use Rattle.log_ledger.specs.Numbers.{Numbers, IsServed, AreInOrder}
use Rattle.log_device.proofs.Left.{left_low}
use Rattle.log_device.proofs.FlushSteps.{still_flushes, not_nothing, memory_apart, no_fault, no_nothing}
use Rattle.log_device.proofs.FlushNumbers.{refused_with, refused_numbers}
use Rattle.log_device.proofs.Breaking.{still_breaks}
use Rattle.log_device.proofs.Results.{not_other, err_same}
use Rattle.log_device.proofs.device.Device.flush_committed.Goals as goal

pub returns-then-not-has_unflushed-clause-flushes : goal.returns-then-not-has_unflushed-clause-flushes
returns-then-not-has_unflushed-clause-flushes g c told h whole none =
    c.found_nothing.ensures.flushes told h whole none
    (λ e f member region has of. (rw c.deref-ledger.ensures at c.if-not-has_unflushed.ensures.none) h whole.counted refl e f (Contains-append_left h.kept.durable h.kept.staged e member) region has of)

pub returns-in_err-cells-clause-flushes : goal.returns-in_err-cells-clause-flushes
returns-in_err-cells-clause-flushes g c told h whole none =
    still_flushes g.D.Disk h c.args.region (option_copied c.args.family) _ c.args.self.now _ (g.met.D.Disk.is_true c.args.self.now.disk told) whole refl c.from_residual.ensures.0
    (λ n is. absurd (not_nothing c.from_residual.result refusals.Memory (λ m is. absurd (cc is)) c.from_residual.ensures.1 n is)) whole

pub write_store-requires-clause-within : goal.write_store-requires-clause-within
write_store-requires-clause-within g c = rw c.name_of-own.ensures at (rw c.deref-ledger.ensures at c.in_ok-cells.ensures.within)

pub returns-clause-flushes : goal.returns-clause-flushes
returns-clause-flushes g c told h whole none =
    c.write_store.ensures.flushes told h whole none ((rw c.deref-ledger.ensures at c.if-not-has_unflushed.ensures.some) h whole.counted refl) (rw c.name_of-own.ensures at ((rw c.deref-ledger.ensures at c.in_ok-cells.ensures.cut) h whole.counted none))

pub returns-then-not-has_unflushed-clause-logs : goal.returns-then-not-has_unflushed-clause-logs
returns-then-not-has_unflushed-clause-logs g c told k = ap (λ d. bytes_of (g.D.Disk.view d).files k) c.found_nothing.ensures.disk

pub returns-in_err-cells-clause-logs : goal.returns-in_err-cells-clause-logs
returns-in_err-cells-clause-logs g c told k = refl

pub returns-then-not-has_unflushed-clause-breaks : goal.returns-then-not-has_unflushed-clause-breaks
returns-then-not-has_unflushed-clause-breaks g c =
    still_breaks g.D.Disk c.args.self.now c.found_nothing.new.self c.requires.rest.unbroken (λ broken. c.requires.rest.unbroken (sym c.found_nothing.ensures.log ∙ broken)) c.found_nothing.ensures.disk
    (λ is. no_nothing _ (err_same is))

pub returns-in_default-clause-flushes : goal.returns-in_default-clause-flushes
returns-in_default-clause-flushes g c told h whole none =
    still_flushes g.D.Disk h c.args.region (option_copied c.args.family) _ c.args.self.now _ (g.met.D.Disk.is_true c.args.self.now.disk told) whole refl refl (λ n is. absurd (memory_apart n (err_same is))) whole

pub write_store-requires-clause-left : goal.write_store-requires-clause-left
write_store-requires-clause-left g c = (rw c.deref-ledger.ensures at c.if-not-has_unflushed.ensures.left) refl

pub write_store-requires-clause-of : goal.write_store-requires-clause-of
write_store-requires-clause-of g c = rw c.name_of-own.ensures at c.in_ok-cells.ensures.of

pub write_store-requires-clause-low : goal.write_store-requires-clause-low
write_store-requires-clause-low g c =
    left_low c.args.self.now.ledger.value c.args.region (family_in (option_copied c.args.family)) (rw c.deref-ledger.ensures at c.if-not-has_unflushed.ensures.order) ((rw c.deref-ledger.ensures at c.if-not-has_unflushed.ensures.left) refl)

pub has_unflushed-requires-clause-served : goal.has_unflushed-requires-clause-served
has_unflushed-requires-clause-served g c = subst (λ (b : Numbers). IsServed b c.args.region) (sym c.deref-ledger.ensures) c.requires.served

pub has_unflushed-requires-clause-family : goal.has_unflushed-requires-clause-family
has_unflushed-requires-clause-family g c = c.requires.family

pub found_nothing-requires-clause-served : goal.found_nothing-requires-clause-served
found_nothing-requires-clause-served g c = c.requires.served

pub found_nothing-requires-clause-rest : goal.found_nothing-requires-clause-rest
found_nothing-requires-clause-rest g c = c.requires.rest

pub found_nothing-requires-clause-order : goal.found_nothing-requires-clause-order
found_nothing-requires-clause-order g c = subst AreInOrder c.deref-ledger.ensures c.has_unflushed.ensures.order

pub found_nothing-requires-clause-none : goal.found_nothing-requires-clause-none
found_nothing-requires-clause-none g c all = subst (λ (b : Numbers). get_or b.chains c.args.region [] ≡ []) c.deref-ledger.ensures (c.if-not-has_unflushed.ensures.empty all refl)

pub returns-then-not-has_unflushed-clause-numbers : goal.returns-then-not-has_unflushed-clause-numbers
returns-then-not-has_unflushed-clause-numbers g c = c.found_nothing.ensures.numbers

pub returns-then-not-has_unflushed-clause-memory : goal.returns-then-not-has_unflushed-clause-memory
returns-then-not-has_unflushed-clause-memory g c memory = c.found_nothing.ensures.disk

pub cells-requires : goal.cells-requires
cells-requires g c = subst (λ (b : Numbers). IsServed b c.args.region) (sym c.deref-ledger.ensures) c.requires.served

pub returns-in_err-cells-clause-numbers : goal.returns-in_err-cells-clause-numbers
returns-in_err-cells-clause-numbers g c =
    refused_with g.D.Disk c.args.region (option_copied c.args.family) c.args.self.now c.args.self.now c.requires.rest refl refl refl refl (λ limit was. was) c.from_residual.result refusals.Memory c.from_residual.ensures.1 memory_apart refl refl

pub returns-in_err-cells-clause-memory : goal.returns-in_err-cells-clause-memory
returns-in_err-cells-clause-memory g c memory = refl

pub returns-in_err-cells-clause-breaks : goal.returns-in_err-cells-clause-breaks
returns-in_err-cells-clause-breaks g c =
    still_breaks g.D.Disk c.args.self.now c.args.self.now c.requires.rest.unbroken c.requires.rest.unbroken refl (not_other c.from_residual.result refusals.Memory refusals.WriteFault no_fault c.from_residual.ensures.1)

pub returns-in_default-clause-numbers : goal.returns-in_default-clause-numbers
returns-in_default-clause-numbers g c =
    refused_numbers g.D.Disk c.args.region (option_copied c.args.family) c.args.self.now c.args.self.now c.requires.rest refl refl refl refl (λ limit was. was) refusals.Memory memory_apart refl refl

pub returns-in_default-clause-logs : goal.returns-in_default-clause-logs
returns-in_default-clause-logs g c told k = refl

pub returns-in_default-clause-memory : goal.returns-in_default-clause-memory
returns-in_default-clause-memory g c memory = refl

pub returns-in_default-clause-breaks : goal.returns-in_default-clause-breaks
returns-in_default-clause-breaks g c = still_breaks g.D.Disk c.args.self.now c.args.self.now c.requires.rest.unbroken c.requires.rest.unbroken refl (λ is. no_fault (err_same is))

pub write_store-requires-clause-served : goal.write_store-requires-clause-served
write_store-requires-clause-served g c = c.requires.served

pub write_store-requires-clause-family : goal.write_store-requires-clause-family
write_store-requires-clause-family g c = c.requires.family

pub write_store-requires-clause-order : goal.write_store-requires-clause-order
write_store-requires-clause-order g c = subst AreInOrder c.deref-ledger.ensures c.has_unflushed.ensures.order

pub write_store-requires-clause-above : goal.write_store-requires-clause-above
write_store-requires-clause-above g c all =
    subst (λ (b : Numbers). get_or b.stored c.args.region 0 < get_or b.drawn c.args.region 0) c.deref-ledger.ensures (c.if-not-has_unflushed.ensures.above all refl)

pub write_store-requires-clause-room : goal.write_store-requires-clause-room
write_store-requires-clause-room g c = c.in-Ok.ensures ∙ c.name_of-own.ensures

pub write_store-requires-clause-rest : goal.write_store-requires-clause-rest
write_store-requires-clause-rest g c = c.requires.rest

pub returns-clause-numbers : goal.returns-clause-numbers
returns-clause-numbers g c = c.write_store.ensures.numbers

pub returns-clause-logs : goal.returns-clause-logs
returns-clause-logs g c = c.write_store.ensures.logs

pub returns-clause-memory : goal.returns-clause-memory
returns-clause-memory g c = c.write_store.ensures.memory

pub returns-clause-breaks : goal.returns-clause-breaks
returns-clause-breaks g c = c.write_store.ensures.breaks
