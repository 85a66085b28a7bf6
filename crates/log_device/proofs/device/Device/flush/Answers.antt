use Rattle.std.proofs.Common.{◌≡◌, ◌++◌, ◌+◌, get_or, option_copied, refl, sym, ◌∙◌, subst}
use Rattle.chronicle_model.proofs.Grown.{prolonged, appends_and_stays}
use Rattle.disk_images.specs.Crash.{Elapses}
use Rattle.recovery_laws.specs.Kept.{lasts}
use Rattle.log_ledger.specs.History.{committed_in, flushed_in, family_in}
use Rattle.log_ledger.specs.Counted.{HasUnflushed}
use Rattle.log_ledger.specs.Numbers.{Numbers, IsServed}
use Rattle.log_device.specs.Calls.{FlushesNumbers}
use Rattle.log_device.specs.Flushed.{HasStore}
use Rattle.log_device.specs.declared.error.DeviceFlush.TheVariants as refusals
use Rattle.log_device.specs.Whole.{IsBroken, HasHistory}
use Rattle.log_device.proofs.Breaking.{cause_behind}
use Rattle.log_device.proofs.FlushSteps.{not_nothing, no_nothing, no_fault, flushes_behind}
use Rattle.log_device.proofs.FlushNumbers.{broken_numbers, numbers_behind}
use Rattle.log_device.proofs.Results.{whichever, none_of, on_any, not_true, not_other, is_err_of}
use Rattle.log_device.proofs.Syncing.{at_rest}
use Rattle.log_device.proofs.Whole.{whole_goes_on}
use Rattle.log_device.proofs.device.Device.flush.Goals as goal

-- the commit failed
pub returns-in_err-sync-clause-flushes : goal.returns-in_err-sync-clause-flushes
returns-in_err-sync-clause-flushes g c told h whole =
    let mid = c.sync.new.self in
    let sync = c.sync.ensures.syncs told h whole in
    let failed = c.from_residual.ensures in record {
      any_moment = (4, sync.any_moment);
      names = λ file is. (4, sync.names file is);
      flushed = none_of c.from_residual.result (λ n. (n ≡ lasts h.kept.first (h.kept.durable ++ h.kept.staged) c.args.region) × HasUnflushed (committed_in h).kept c.args.region (option_copied c.args.family)
          × HasHistory g.D.Disk mid (flushed_in (committed_in h) c.args.region (family_in (option_copied c.args.family)) n)) failed.0;
      store = none_of c.from_residual.result (λ n. HasStore (g.D.Disk.view mid.disk) c.args.region (family_in (option_copied c.args.family)) (get_or c.args.self.now.ledger.value.next_store c.args.region 0)
          (h.kept.flushed c.args.region (family_in (option_copied c.args.family)) + 1) n) failed.0;
      nothing = λ n is. absurd (not_nothing c.from_residual.result refusals.WriteFault no_nothing failed.1 n is);
      refused = on_any {P = (IsBroken mid → ⊥) → HasHistory g.D.Disk mid (committed_in h)} c.from_residual.result (λ unbroken. absurd (unbroken (c.in_err-sync.ensures.broken.0 refl)));
      lower = sync.lower;
    }

pub returns-in_err-sync-clause-chronicle : goal.returns-in_err-sync-clause-chronicle
returns-in_err-sync-clause-chronicle g c told h whole =
    prolonged whole.file.name.number (g.D.Disk.view c.args.self.now.disk).files (g.D.Disk.view c.sync.new.self.disk).files (c.sync.ensures.appends told h whole.file whole whole.is)

pub flush_committed-requires-clause-rest : goal.flush_committed-requires-clause-rest
flush_committed-requires-clause-rest g c =
    at_rest g.D.Disk _ c.args.self.now c.sync.new.self c.requires.whole (λ told h whole. (c.in_ok-sync.ensures.syncs told h whole).committed) c.in_ok-sync.ensures.order
    c.in_ok-sync.ensures.numbers (record { stays = c.in_ok-sync.ensures.stays; broken = c.in_ok-sync.ensures.broken; cause = c.in_ok-sync.ensures.cause })

pub returns-clause-flushes : goal.returns-clause-flushes
returns-clause-flushes g c told h whole =
    let sync = c.in_ok-sync.ensures.syncs told h whole in
    flushes_behind g.D.Disk h c.args.region (option_copied c.args.family) _ c.flush_committed.result c.args.self.now c.sync.new.self c.flush_committed.new.self (g.met.D.Disk.is_true c.args.self.now.disk told)
    (g.met.D.Disk.is_true c.sync.new.self.disk told) whole sync.committed c.in_ok-sync.ensures.numbers.synced c.in_ok-sync.ensures.numbers.file sync
    (c.flush_committed.ensures.flushes told (committed_in h) sync.committed refl)

pub returns-clause-chronicle : goal.returns-clause-chronicle
returns-clause-chronicle g c told h whole =
    let u = g.D.Disk.view c.args.self.now.disk in
    let v = g.D.Disk.view c.sync.new.self.disk in
    let w = g.D.Disk.view c.flush_committed.new.self.disk in
    let n = whole.file.name.number in
    prolonged n u.files w.files (appends_and_stays n u.files v.files w.files (c.sync.ensures.appends told h whole.file whole whole.is) (λ k low. c.flush_committed.ensures.logs told k))

pub returns-clause-numbers : goal.returns-clause-numbers
returns-clause-numbers g c =
    numbers_behind c.args.region (option_copied c.args.family) c.flush_committed.result c.args.self.now c.sync.new.self c.flush_committed.new.self c.in_ok-sync.ensures.numbers.synced c.sync.ensures.numbers.never_falls c.sync.ensures.numbers.few
    c.in_ok-sync.ensures.numbers.file c.flush_committed.ensures.numbers

pub returns-clause-memory : goal.returns-clause-memory
returns-clause-memory g c memory =
    let same = c.flush_committed.ensures.memory memory in record {
      calls = λ told h whole.
          subst (λ d. Elapses 4 (g.D.Disk.view c.args.self.now.disk) (g.D.Disk.view d)) (sym same) (c.sync.ensures.syncs told h whole).any_moment.time;
      idle = λ file is none. same ∙ (c.sync.ensures.numbers.idle file is none).0;
    }

pub returns-in_err-sync-clause-numbers : goal.returns-in_err-sync-clause-numbers
returns-in_err-sync-clause-numbers g c =
    subst (λ r. FlushesNumbers c.args.region (option_copied c.args.family) r c.args.self.now c.sync.new.self) (sym (is_err_of c.from_residual.result refusals.WriteFault c.from_residual.ensures.1))
    (broken_numbers c.args.region (option_copied c.args.family) c.args.self.now c.sync.new.self (c.in_err-sync.ensures.broken.0 refl) c.in_err-sync.ensures.numbers.faulty)

pub returns-in_err-sync-clause-stays : goal.returns-in_err-sync-clause-stays
returns-in_err-sync-clause-stays g c = c.sync.ensures.stays

pub returns-in_err-sync-clause-memory : goal.returns-in_err-sync-clause-memory
returns-in_err-sync-clause-memory g c memory = absurd (not_other c.from_residual.result refusals.WriteFault refusals.Memory (λ is. no_fault (sym is)) c.from_residual.ensures.1 memory)

pub returns-in_err-sync-clause-broken : goal.returns-in_err-sync-clause-broken
returns-in_err-sync-clause-broken g c = (λ _. c.in_err-sync.ensures.broken.0 refl, λ _. is_err_of c.from_residual.result refusals.WriteFault c.from_residual.ensures.1)

pub returns-in_err-sync-clause-cause : goal.returns-in_err-sync-clause-cause
returns-in_err-sync-clause-cause g c = record { later = c.sync.ensures.cause.later; risen = λ failed. c.in_err-sync.ensures.cause.risen (failed.0, refl) }

pub flush_committed-requires-clause-served : goal.flush_committed-requires-clause-served
flush_committed-requires-clause-served g c = subst (λ (b : Numbers). IsServed b c.args.region) (sym c.in_ok-sync.ensures.numbers.synced) c.requires.served

pub flush_committed-requires-clause-family : goal.flush_committed-requires-clause-family
flush_committed-requires-clause-family g c = c.requires.family

pub returns-clause-stays : goal.returns-clause-stays
returns-clause-stays g c broken = absurd (not_true (c.in_ok-sync.ensures.broken.1 (subst (λ d. IsBroken d) (sym (c.sync.ensures.stays broken)) broken)))

pub returns-clause-broken : goal.returns-clause-broken
returns-clause-broken g c = c.flush_committed.ensures.breaks.broken

pub returns-clause-cause : goal.returns-clause-cause
returns-clause-cause g c =
    cause_behind _ _ _ c.sync.ensures.cause c.flush_committed.ensures.breaks.cause (λ failed. (λ broken. not_true (c.in_ok-sync.ensures.broken.1 broken), failed.1))

pub returns-in_err-sync-clause-goes_on : goal.returns-in_err-sync-clause-goes_on
returns-in_err-sync-clause-goes_on g c told h whole unbroken = absurd (unbroken (c.in_err-sync.ensures.broken.0 refl))

pub returns-clause-goes_on : goal.returns-clause-goes_on
returns-clause-goes_on g c told h whole unbroken =
    let flushes = returns-clause-flushes g c told h whole in
    let now = c.flush_committed.new.self in
    let view = g.D.Disk.view now.disk in
    whichever c.flush_committed.result (λ n kept. whole_goes_on now view (flushed_in (committed_in h) c.args.region (family_in (option_copied c.args.family)) n) kept.2)
    (λ kept. whole_goes_on now view (committed_in h) (kept unbroken)) flushes.flushed flushes.refused
