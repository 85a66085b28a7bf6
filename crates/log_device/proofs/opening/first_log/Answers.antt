use Rattle.std.proofs.Common.{◌+◌, ℕ, [], refl, subst, ap, ◌∙◌, arith}
use Rattle.std.proofs.Math.Logic.{∥∥₁_elim}
use Rattle.log_model.specs.declared.name.Name.{Name}
use Rattle.log_model.specs.Files.{content}
use Rattle.disk_images.specs.Crash.{Throughout}
use Rattle.disk_images.proofs.Moments.{more_time}
use Rattle.recovery_laws.specs.Change.{RecoversSome}
use Rattle.log_device.specs.Bears.{Bears}
use Rattle.log_device.specs.Keeps.{log_name}
use Rattle.log_device.specs.Opened.{log_number}
use Rattle.log_device.proofs.Disk.{absent_by}
use Rattle.log_device.proofs.Starting.{free, look_names, look_moments, start_names, start_moments, start_kept}
use Rattle.log_device.proofs.opening.first_log.Goals as goal

pub returns-in_err-number-clause-any_moment : goal.returns-in_err-number-clause-any_moment
returns-in_err-number-clause-any_moment g c told regions flushed opened =
    let u = g.D.Disk.view c.args.disk.now in
    let v = g.D.Disk.view c.next_number.new.disk in
    more_time (RecoversSome u.files []) 1 4 u v (omega arith) (look_moments u regions flushed opened (g.met.D.Disk.is_true c.args.disk.now told) v (c.next_number.ensures.looks told))

pub begin-requires-clause-absent : goal.begin-requires-clause-absent
begin-requires-clause-absent g c told =
    let u = g.D.Disk.view c.args.disk.now in
    let v = g.D.Disk.view c.next_number.new.disk in
    let name = log_name c.in_ok-number.number in
    let sound = g.met.D.Disk.is_true c.args.disk.now told in
    let looks = c.next_number.ensures.looks told in (
      absent_by (content v.files name) (c.requires told) (λ r. (free u r.0 r.1 r.2 sound v looks c.in_ok-number.number).0),
      λ gone. ∥∥₁_elim (c.requires told) (λ a b. absurd a) (λ r. (free u r.0 r.1 r.2 sound v looks c.in_ok-number.number).1 gone),
    )

pub returns-in_err-log-clause-any_moment : goal.returns-in_err-log-clause-any_moment
returns-in_err-log-clause-any_moment g c told regions flushed opened =
    start_moments (g.D.Disk.view c.args.disk.now) regions flushed opened (g.met.D.Disk.is_true c.args.disk.now told) (g.D.Disk.view c.next_number.new.disk) (c.next_number.ensures.looks told)
    (g.D.Disk.view c.begin.new.disk) c.in_ok-number.number (c.begin.ensures.begins told).atomic

pub returns-clause-any_moment : goal.returns-clause-any_moment
returns-clause-any_moment g c told regions flushed opened =
    start_moments (g.D.Disk.view c.args.disk.now) regions flushed opened (g.met.D.Disk.is_true c.args.disk.now told) (g.D.Disk.view c.next_number.new.disk) (c.next_number.ensures.looks told)
    (g.D.Disk.view c.begin.new.disk) c.in_ok-number.number (c.begin.ensures.begins told).atomic

pub returns-clause-number : goal.returns-clause-number
returns-clause-number g c told regions flushed last opened greatest = ap (λ (m : Name). m.number) c.in_ok-log.ensures.name ∙ c.in_ok-number.ensures.next told opened.small last greatest

pub returns-clause-kept : goal.returns-clause-kept
returns-clause-kept g c told regions flushed next_store regions_are opened are =
    start_kept (g.D.Disk.view c.args.disk.now) regions flushed opened (g.met.D.Disk.is_true c.args.disk.now told) (g.D.Disk.view c.next_number.new.disk) (c.next_number.ensures.looks told)
    (g.D.Disk.view c.begin.new.disk) c.in_ok-number.number (c.begin.ensures.begins told).atomic (c.begin.ensures.begins told).no_other_file
    next_store are (λ m there. c.in_ok-number.ensures.above told opened.small m there) regions_are (λ limit found. c.in_ok-number.ensures.reached told limit found) c.in_ok-log.log c.in_ok-log.ensures.name (c.in_ok-log.ensures.begins told).durable c.in_ok-log.ensures.empty.1

pub returns-in_err-number-clause-names : goal.returns-in_err-number-clause-names
returns-in_err-number-clause-names g c told regions flushed last opened greatest =
    let u = g.D.Disk.view c.args.disk.now in
    let v = g.D.Disk.view c.next_number.new.disk in
    more_time (Bears u.files [] (last + 1)) 1 4 u v (omega arith)
    (look_names u regions flushed opened (g.met.D.Disk.is_true c.args.disk.now told) v (c.next_number.ensures.looks told) [] (last + 1)
    (λ m there. let low = greatest.bound (log_number m) (m, there, refl) in omega (arith, low)))

pub returns-in_err-log-clause-names : goal.returns-in_err-log-clause-names
returns-in_err-log-clause-names g c told regions flushed last opened greatest =
    let u = g.D.Disk.view c.args.disk.now in
    let w = g.D.Disk.view c.begin.new.disk in
    subst (λ (n : ℕ). Throughout (Bears u.files [] n) 4 u w) (c.in_ok-number.ensures.next told opened.small last greatest)
    (start_names u regions flushed opened (g.met.D.Disk.is_true c.args.disk.now told) (g.D.Disk.view c.next_number.new.disk) (c.next_number.ensures.looks told) w c.in_ok-number.number (c.begin.ensures.begins told).atomic
    [] (λ m there. c.in_ok-number.ensures.above told opened.small m there))

pub returns-clause-names : goal.returns-clause-names
returns-clause-names g c told regions flushed last opened greatest =
    let u = g.D.Disk.view c.args.disk.now in
    let w = g.D.Disk.view c.begin.new.disk in
    subst (λ (n : ℕ). Throughout (Bears u.files [] n) 4 u w) (c.in_ok-number.ensures.next told opened.small last greatest)
    (start_names u regions flushed opened (g.met.D.Disk.is_true c.args.disk.now told) (g.D.Disk.view c.next_number.new.disk) (c.next_number.ensures.looks told) w c.in_ok-number.number (c.begin.ensures.begins told).atomic
    [] (λ m there. c.in_ok-number.ensures.above told opened.small m there))
