use Rattle.std.proofs.Common.{◌≡◌, ℕ, refl, sym, ap, ◌∙◌, subst}
use Rattle.log_model.specs.declared.name.Name.{Name}
use Rattle.log_model.specs.Files.{Files}
use Rattle.chronicle_model.specs.Growth.{AppendsTo}
use Rattle.chronicle_model.proofs.Grown.{prolonged, appends_twice}
use Rattle.disk_images.specs.Crash.{Elapses}
use Rattle.log_ledger.specs.History.{committed_in, closed_in}
use Rattle.log_device.proofs.Results.{whichever}
use Rattle.log_device.proofs.RollSteps.{failed_rolls, rolls_behind}
use Rattle.log_device.proofs.RollNumbers.{numbers_behind}
use Rattle.log_device.proofs.Syncing.{at_rest}
use Rattle.log_device.proofs.Whole.{whole_goes_on}
use Rattle.log_device.proofs.device.Device.roll.Goals as goal

-- the commit failed
pub returns-in_err-sync-clause-rolls : goal.returns-in_err-sync-clause-rolls
returns-in_err-sync-clause-rolls g c told h whole =
    failed_rolls g.D.Disk h _ c.args.self.now c.sync.new.self (c.sync.ensures.syncs told h whole) c.from_residual.result c.from_residual.ensures.0 (c.in_err-sync.ensures.broken.0 refl)

pub returns-in_err-sync-clause-chronicle : goal.returns-in_err-sync-clause-chronicle
returns-in_err-sync-clause-chronicle g c told h whole =
    prolonged whole.file.name.number (g.D.Disk.view c.args.self.now.disk).files (g.D.Disk.view c.sync.new.self.disk).files (c.sync.ensures.appends told h whole.file whole whole.is)

pub roll_committed-requires : goal.roll_committed-requires
roll_committed-requires g c =
    at_rest g.D.Disk _ c.args.self.now c.sync.new.self c.requires (λ told h whole. (c.in_ok-sync.ensures.syncs told h whole).committed) c.in_ok-sync.ensures.order
    c.in_ok-sync.ensures.numbers (record { stays = c.in_ok-sync.ensures.stays; broken = c.in_ok-sync.ensures.broken; cause = c.in_ok-sync.ensures.cause })

pub returns-clause-rolls : goal.returns-clause-rolls
returns-clause-rolls g c told h whole =
    let sync = c.in_ok-sync.ensures.syncs told h whole in
    rolls_behind g.D.Disk h _ c.args.self.now c.sync.new.self sync c.roll_committed.result c.roll_committed.new.self (g.met.D.Disk.is_true c.args.self.now.disk told)
    (g.met.D.Disk.is_true c.sync.new.self.disk told) whole sync.committed c.in_ok-sync.ensures.numbers.synced c.in_ok-sync.ensures.numbers.file
    (c.roll_committed.ensures.rolls told (committed_in h) sync.committed refl)

-- the commit and the rest append to one log
both_append : (n m : ℕ) (u v w : Files) → m ≡ n → AppendsTo n u v → AppendsTo m v w → AppendsTo n u w
both_append n m u v w same first second = appends_twice n u v w first (subst (λ (k : ℕ). AppendsTo k v w) same second)

pub returns-clause-chronicle : goal.returns-clause-chronicle
returns-clause-chronicle g c told h whole =
    let u = g.D.Disk.view c.args.self.now.disk in
    let v = g.D.Disk.view c.sync.new.self.disk in
    let w = g.D.Disk.view c.roll_committed.new.self.disk in
    let now = c.in_ok-sync.ensures.numbers.file whole.file whole.is in
    let kept = (c.in_ok-sync.ensures.syncs told h whole).committed in
    prolonged whole.file.name.number u.files w.files
    (both_append whole.file.name.number now.0.name.number u.files v.files w.files (ap (λ (n : Name). n.number) now.2) (c.sync.ensures.appends told h whole.file whole whole.is)
    (c.roll_committed.ensures.appends told (committed_in h) now.0 kept now.1 refl))

pub returns-clause-numbers : goal.returns-clause-numbers
returns-clause-numbers g c =
    numbers_behind c.roll_committed.result c.args.self.now c.sync.new.self c.roll_committed.new.self c.in_ok-sync.ensures.numbers.synced c.sync.ensures.numbers.never_falls c.sync.ensures.numbers.few
    c.in_ok-sync.ensures.numbers.file c.roll_committed.ensures.numbers

pub returns-clause-memory : goal.returns-clause-memory
returns-clause-memory g c memory =
    let same = c.roll_committed.ensures.memory memory in record {
      calls = λ told h whole.
          subst (λ d. Elapses 4 (g.D.Disk.view c.args.self.now.disk) (g.D.Disk.view d)) (sym same) (c.sync.ensures.syncs told h whole).any_moment.time;
      idle = λ file is none. same ∙ (c.sync.ensures.numbers.idle file is none).0;
    }

pub returns-in_err-sync-clause-goes_on : goal.returns-in_err-sync-clause-goes_on
returns-in_err-sync-clause-goes_on g c told h whole unbroken = absurd (unbroken (c.in_err-sync.ensures.broken.0 refl))

pub returns-clause-goes_on : goal.returns-clause-goes_on
returns-clause-goes_on g c told h whole unbroken =
    let rolls = returns-clause-rolls g c told h whole in
    let now = c.roll_committed.new.self in
    let view = g.D.Disk.view now.disk in
    whichever c.roll_committed.result (λ rolled kept. whole_goes_on now view (closed_in (committed_in h) rolled.closed) kept.0) (λ kept. whole_goes_on now view (committed_in h) (kept unbroken)) rolls.rolled rolls.refused
