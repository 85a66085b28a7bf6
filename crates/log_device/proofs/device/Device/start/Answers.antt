use Rattle.std.proofs.Common.{◌≡◌, ◌↔◌, ◌+◌, ◌≤◌, ℕ, Err, [], get_or, refl, sym, ap, ◌∙◌, subst, arith}
use Rattle.disk_images.proofs.Moments.{at_once, more_time}
use Rattle.std.proofs.Math.Logic.{∥∥₁_map}
use Rattle.log_file.specs.Open.{OpenLog}
use Rattle.log_ledger.specs.declared.base.RegionBase.{RegionBase}
use Rattle.log_ledger.specs.Bases.{AreNumbersOf, IsAmong}
use Rattle.log_ledger.specs.Numbers.{Numbers, IsServed, AreStoresFew}
use Rattle.log_ledger.specs.Counted.{IsCounted}
use Rattle.log_ledger.specs.History.{started_in}
use Rattle.log_device.specs.Bears.{Bears}
use Rattle.log_device.specs.Numbered.{IsNumbered}
use Rattle.log_device.specs.Opened.{log_number}
use Rattle.log_device.specs.declared.error.DeviceWhy.{DeviceWhy}
use Rattle.log_device.proofs.Numbering.{same_file, numbered_first}
use Rattle.log_device.proofs.Results.{some_apart}
use Rattle.log_device.proofs.Starting.{still_moments, names_found}
use Rattle.log_device.proofs.Told.{started_low}
use Rattle.log_device.proofs.Whole.{whole_goes_on}
use Rattle.log_device.proofs.device.Device.start.Goals as goal

pub returns-in_default-clause-any_moment : goal.returns-in_default-clause-any_moment
returns-in_default-clause-any_moment g c told flushed opened = still_moments (g.D.Disk.view c.args.disk) c.args.regions.now flushed opened (g.met.D.Disk.is_true c.args.disk told)

pub first_log-requires : goal.first_log-requires
first_log-requires g c told = ∥∥₁_map (c.requires.opened told) (λ r. (c.args.regions.now, r.0, r.1))

pub returns-in-Ok-first_log-clause-any_moment : goal.returns-in-Ok-first_log-clause-any_moment
returns-in-Ok-first_log-clause-any_moment g c told flushed opened = c.first_log.ensures.any_moment told c.args.regions.now flushed opened

pub returns-in-Ok-first_log-clause-started : goal.returns-in-Ok-first_log-clause-started
returns-in-Ok-first_log-clause-started g c told flushed opened =
    let u = g.D.Disk.view c.args.disk in
    let boxed = c.in-Ok-new.ensures.ok in record {
      file = c.in-Ok-first_log.log;
      is = refl;
      keeps = c.in-Ok-first_log.ensures.kept told c.args.regions.now flushed c.in-Ok-new.ledger.value.next_store c.requires.regions opened
          (subst (λ (b : Numbers). AreNumbersOf (λ (m : RegionBase). m.next_store) c.args.regions.now b.next_store) (sym boxed) c.in-Ok.ensures.next_store);
      counted = subst (λ (b : Numbers). IsCounted b (started_in u.files flushed)) (sym boxed) (c.in-Ok.ensures.counted u.files flushed opened.marks opened.no_logs opened.flushed_of);
      told = subst (λ (b : Numbers). (r : ℕ) → get_or b.stored r 0 ≤ flushed r) (sym boxed) (started_low c.args.regions.now flushed c.before.before.before.before.before.before.in-Ok.ledger opened.marks c.in-Ok.ensures.served c.in-Ok.ensures.drawn c.in-Ok.ensures.stored);
    }

pub returns-in-Ok-first_log-clause-number : goal.returns-in-Ok-first_log-clause-number
returns-in-Ok-first_log-clause-number g c told flushed last opened greatest file is =
    subst (λ (x : OpenLog). x.name.number ≡ last + 1) (same_file c.in-Ok-first_log.log file is) (c.in-Ok-first_log.ensures.number told c.args.regions.now flushed last opened greatest)

pub returns-in-Err-clause-any_moment : goal.returns-in-Err-clause-any_moment
returns-in-Err-clause-any_moment g c told flushed opened = c.first_log.ensures.any_moment told c.args.regions.now flushed opened

pub returns-in_default-clause-names : goal.returns-in_default-clause-names
returns-in_default-clause-names g c told flushed last opened greatest =
    let u = g.D.Disk.view c.args.disk in
    more_time (Bears u.files [] (last + 1)) 0 4 u u (omega arith)
    (at_once (Bears u.files [] (last + 1)) u
    (names_found u c.args.regions.now flushed opened (g.met.D.Disk.is_true c.args.disk told) [] (last + 1) (λ m there. let low = greatest.bound (log_number m) (m, there, refl) in omega (arith, low))))

pub returns-in-Ok-first_log-clause-names : goal.returns-in-Ok-first_log-clause-names
returns-in-Ok-first_log-clause-names g c told flushed last opened greatest = c.first_log.ensures.names told c.args.regions.now flushed last opened greatest

pub returns-in-Err-clause-names : goal.returns-in-Err-clause-names
returns-in-Err-clause-names g c told flushed last opened greatest = c.first_log.ensures.names told c.args.regions.now flushed last opened greatest

pub returns-in_default-new-clause-any_moment : goal.returns-in_default-new-clause-any_moment
returns-in_default-new-clause-any_moment g c told flushed opened = still_moments (g.D.Disk.view c.args.disk) c.args.regions.now flushed opened (g.met.D.Disk.is_true c.args.disk told)

pub returns-in_default-new-clause-names : goal.returns-in_default-new-clause-names
returns-in_default-new-clause-names g c told flushed last opened greatest =
    let u = g.D.Disk.view c.args.disk in
    more_time (Bears u.files [] (last + 1)) 0 4 u u (omega arith)
    (at_once (Bears u.files [] (last + 1)) u
    (names_found u c.args.regions.now flushed opened (g.met.D.Disk.is_true c.args.disk told) [] (last + 1) (λ m there. let low = greatest.bound (log_number m) (m, there, refl) in omega (arith, low))))

pub invariant_of-result : goal.invariant_of-result
invariant_of-result g c = record {
  numbered = λ file is.
      subst (λ (f : OpenLog). IsNumbered f c.in-Ok-new.ledger.value) (same_file c.in-Ok-first_log.log file is)
      (numbered_first c.in-Ok-first_log.log c.in-Ok-new.ledger.value c.in-Ok-first_log.ensures.name c.in-Ok-first_log.ensures.empty.0 c.in-Ok-first_log.ensures.empty.1
      (ap (λ (b : Numbers). b.accounts.last) c.in-Ok-new.ensures.ok ∙ c.in-Ok.ensures.last));
}

pub returns-in-Ok-first_log-clause-served : goal.returns-in-Ok-first_log-clause-served
returns-in-Ok-first_log-clause-served g c = subst (λ (b : Numbers). (r : ℕ) → IsServed b r ↔ IsAmong c.args.regions.now r) (sym c.in-Ok-new.ensures.ok) c.in-Ok.ensures.served

pub returns-in-Ok-first_log-clause-drawn : goal.returns-in-Ok-first_log-clause-drawn
returns-in-Ok-first_log-clause-drawn g c = subst (λ (b : Numbers). AreNumbersOf (λ (m : RegionBase). m.flushed) c.args.regions.now b.drawn) (sym c.in-Ok-new.ensures.ok) c.in-Ok.ensures.drawn

pub returns-in-Ok-first_log-clause-next_store : goal.returns-in-Ok-first_log-clause-next_store
returns-in-Ok-first_log-clause-next_store g c = subst (λ (b : Numbers). AreNumbersOf (λ (m : RegionBase). m.next_store) c.args.regions.now b.next_store) (sym c.in-Ok-new.ensures.ok) c.in-Ok.ensures.next_store

pub returns-in-Ok-first_log-clause-few : goal.returns-in-Ok-first_log-clause-few
returns-in-Ok-first_log-clause-few g c limit small = subst (λ (b : Numbers). AreStoresFew limit b) (sym c.in-Ok-new.ensures.ok) (c.in-Ok.ensures.few limit small)

pub returns-in-Ok-first_log-clause-numbers : goal.returns-in-Ok-first_log-clause-numbers
returns-in-Ok-first_log-clause-numbers g c =
    subst (λ (b : Numbers). (b.synced ≡ b.drawn) × (b.stored ≡ b.drawn) × (b.closed ≡ b.drawn)) (sym c.in-Ok-new.ensures.ok) (c.in-Ok.ensures.synced, c.in-Ok.ensures.stored, c.in-Ok.ensures.closed)

pub returns-in-Ok-first_log-clause-unbroken : goal.returns-in-Ok-first_log-clause-unbroken
returns-in-Ok-first_log-clause-unbroken g c broken = some_apart (sym broken)

pub returns-in-Ok-first_log-clause-empty : goal.returns-in-Ok-first_log-clause-empty
returns-in-Ok-first_log-clause-empty g c file is =
    subst (λ (f : OpenLog). (f.entries ≡ 0) × (f.staged ≡ 0)) (same_file c.in-Ok-first_log.log file is) (c.in-Ok-first_log.ensures.empty.0, c.in-Ok-first_log.ensures.empty.1)

pub returns-in-Ok-first_log-clause-idle : goal.returns-in-Ok-first_log-clause-idle
returns-in-Ok-first_log-clause-idle g c file is =
    subst (λ (f : OpenLog). (f.staged ≡ 0) × (f.bytes ≡ [])) (same_file c.in-Ok-first_log.log file is) (c.in-Ok-first_log.ensures.empty.1, c.in-Ok-first_log.ensures.empty.2)

pub returns-in-Ok-first_log-clause-cause : goal.returns-in-Ok-first_log-clause-cause
returns-in-Ok-first_log-clause-cause g c = record { later = c.first_log.ensures.cause.later; risen = λ failed. absurd failed }

pub returns-in-Err-clause-refused : goal.returns-in-Err-clause-refused
returns-in-Err-clause-refused g c told is = c.in-Err.ensures.refused told (ap (λ (e : DeviceWhy). Err e) is)

pub returns-in-Err-clause-cause : goal.returns-in-Err-clause-cause
returns-in-Err-clause-cause g c = record { later = c.first_log.ensures.cause.later; risen = λ is. c.in-Err.ensures.cause.risen (ap (λ (e : DeviceWhy). Err e) is) }

pub returns-in-Ok-first_log-clause-goes_on : goal.returns-in-Ok-first_log-clause-goes_on
returns-in-Ok-first_log-clause-goes_on g c told flushed opened =
    whole_goes_on _ (g.D.Disk.view c.first_log.new.disk) (started_in (g.D.Disk.view c.args.disk).files flushed) (returns-in-Ok-first_log-clause-started g c told flushed opened)
