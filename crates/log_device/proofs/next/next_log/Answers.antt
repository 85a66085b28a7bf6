use Rattle.std.proofs.Common.{◌≡◌, ◌+◌, ◌∙◌, ℕ, List, [], Result, Ok, Err, IfOk, sym, subst, arith}
use Rattle.std.proofs.Math.Logic.{∥∥₁_map, ∥∥₁_elim}
use Rattle.log_model.specs.declared.name.Name.{Name}
use Rattle.log_model.specs.Files.{content, IsAbsent}
use Rattle.disk_images.specs.Crash.{Throughout, OnlyAt}
use Rattle.disk_images.specs.OneFile.{Touches}
use Rattle.disk_images.proofs.Moments.{more_time}
use Rattle.recovery_laws.specs.Change.{HasEntries}
use Rattle.log_file.specs.Open.{OpenLog, IsOpen, IsStaged}
use Rattle.log_ledger.specs.History.{History}
use Rattle.log_device.specs.Bears.{Bears}
use Rattle.log_device.specs.Keeps.{Keeps, Between, IsInOrder, log_name}
use Rattle.log_device.proofs.Appends.{end_appends, roll_appends}
use Rattle.log_device.proofs.Disk.{absent_by}
use Rattle.log_device.proofs.NextLog.{still_free, end_names, roll_names, end_moments, end_in_order, roll_moments, roll_in_order, roll_kept}
use Rattle.log_device.proofs.next.next_log.Goals as goal

pub finish-requires-clause-open : goal.finish-requires-clause-open
finish-requires-clause-open g c told = ∥∥₁_map (c.requires.kept told) (λ r. (r.0.current, r.2.open_log))

pub returns-in_err-finish-clause-any_moment : goal.returns-in_err-finish-clause-any_moment
returns-in_err-finish-clause-any_moment g c told h ns keeps =
    let u = g.D.Disk.view c.args.disk.now in
    let v = g.D.Disk.view c.finish.new.disk in
    more_time (Between h.kept c.args.log.name h.current h.kept (log_name (c.args.log.name.number + 1)) []) 4 7 u v (omega arith)
    (end_moments c.args.log u v v h ns keeps (g.met.D.Disk.is_true c.args.disk.now told) (g.met.D.Disk.is_true c.finish.new.disk told) (c.finish.ensures.finishes told h.current keeps.open_log).atomic)

pub returns-in_err-finish-clause-in_order : goal.returns-in_err-finish-clause-in_order
returns-in_err-finish-clause-in_order g c told h ns keeps =
    let u = g.D.Disk.view c.args.disk.now in
    let v = g.D.Disk.view c.finish.new.disk in
    more_time (IsInOrder c.args.log.name (log_name (c.args.log.name.number + 1)) h.current) 4 7 u v (omega arith)
    (end_in_order c.args.log u v v h ns keeps (g.met.D.Disk.is_true c.args.disk.now told) (g.met.D.Disk.is_true c.finish.new.disk told) (c.finish.ensures.finishes told h.current keeps.open_log).atomic)

pub begin_with-requires-clause-absent : goal.begin_with-requires-clause-absent
begin_with-requires-clause-absent g c told =
    let u = g.D.Disk.view c.args.disk.now in
    let v = g.D.Disk.view c.finish.new.disk in
    let free : (r : (h : History) × (ns : List ℕ) × Keeps c.args.log u h ns) → IsAbsent v.files (log_name (c.args.log.name.number + 1)) × (v.gone (log_name (c.args.log.name.number + 1)) → ⊥) =
    λ r. still_free c.args.log u v v r.0 r.1 r.2 (g.met.D.Disk.is_true c.args.disk.now told) (g.met.D.Disk.is_true c.finish.new.disk told)
    (c.finish.ensures.finishes told r.0.current r.2.open_log).atomic (c.finish.ensures.no_other_file told) (c.in_ok-finish.ensures.finishes told r.0.current r.2.open_log).durable in
    subst (λ (n : Name). IsAbsent v.files n × (v.gone n → ⊥)) (sym c.requires.next)
    (absent_by (content v.files (log_name (c.args.log.name.number + 1))) (c.requires.kept told) (λ r. (free r).0), λ gone. ∥∥₁_elim (c.requires.kept told) (λ a b. absurd a) (λ r. (free r).1 gone))

pub returns-clause-any_moment : goal.returns-clause-any_moment
returns-clause-any_moment g c told h ns keeps =
    let u = g.D.Disk.view c.args.disk.now in
    let v = g.D.Disk.view c.finish.new.disk in
    let w = g.D.Disk.view c.begin_with.new.disk in
    roll_moments c.args.log u v w h ns keeps (g.met.D.Disk.is_true c.args.disk.now told) (g.met.D.Disk.is_true c.finish.new.disk told)
    (c.finish.ensures.finishes told h.current keeps.open_log).atomic (c.finish.ensures.no_other_file told) (c.in_ok-finish.ensures.finishes told h.current keeps.open_log).durable
    (subst (λ (n : Name). Throughout (OnlyAt n (HasEntries n []) v) 3 v w) c.requires.next (c.begin_with.ensures.begins told).atomic)

pub returns-clause-in_order : goal.returns-clause-in_order
returns-clause-in_order g c told h ns keeps =
    let u = g.D.Disk.view c.args.disk.now in
    let v = g.D.Disk.view c.finish.new.disk in
    let w = g.D.Disk.view c.begin_with.new.disk in
    roll_in_order c.args.log u v w h ns keeps (g.met.D.Disk.is_true c.args.disk.now told) (g.met.D.Disk.is_true c.finish.new.disk told)
    (c.finish.ensures.finishes told h.current keeps.open_log).atomic (c.finish.ensures.no_other_file told) (c.in_ok-finish.ensures.finishes told h.current keeps.open_log).durable
    (subst (λ (n : Name). Throughout (OnlyAt n (HasEntries n []) v) 3 v w) c.requires.next (c.begin_with.ensures.begins told).atomic)

three : {T E : Type 0} {P Q R S : T → Type 0} (result : Result T E) → ((t : T) → P t → Q t → R t → S t) → IfOk result P → IfOk result Q → IfOk result R → IfOk result S
three (Ok t) then p q r = then t p q r
three (Err e) then p q r = tt

pub returns-clause-kept : goal.returns-clause-kept
returns-clause-kept g c told h ns keeps none =
    let u = g.D.Disk.view c.args.disk.now in
    let v = g.D.Disk.view c.finish.new.disk in
    let w = g.D.Disk.view c.begin_with.new.disk in
    three c.begin_with.result
    (λ (now : OpenLog) (is_open : IsOpen now w []) (name : now.name ≡ c.args.next) (empty : (now.entries ≡ 0) × IsStaged now []).
    roll_kept c.args.log u v w h ns keeps (g.met.D.Disk.is_true c.args.disk.now told) (g.met.D.Disk.is_true c.finish.new.disk told)
    (c.finish.ensures.finishes told h.current keeps.open_log).atomic (c.finish.ensures.no_other_file told) (c.in_ok-finish.ensures.finishes told h.current keeps.open_log).durable
    (subst (λ (n : Name). Throughout (OnlyAt n (HasEntries n []) v) 3 v w) c.requires.next (c.begin_with.ensures.begins told).atomic)
    (subst (λ (n : Name). Touches n v w) c.requires.next (c.begin_with.ensures.begins told).no_other_file)
    now none c.requires.some (name ∙ c.requires.next) is_open empty.1)
    (c.begin_with.ensures.begins told).durable c.begin_with.ensures.name c.begin_with.ensures.empty

pub returns-in_err-finish-clause-names : goal.returns-in_err-finish-clause-names
returns-in_err-finish-clause-names g c told h ns keeps =
    let u = g.D.Disk.view c.args.disk.now in
    let v = g.D.Disk.view c.finish.new.disk in
    more_time (Bears h.kept.base ns (c.args.log.name.number + 1)) 4 7 u v (omega arith)
    (end_names c.args.log u v v h ns keeps (g.met.D.Disk.is_true c.args.disk.now told) (g.met.D.Disk.is_true c.finish.new.disk told) (c.finish.ensures.finishes told h.current keeps.open_log).atomic)

pub returns-clause-names : goal.returns-clause-names
returns-clause-names g c told h ns keeps =
    let u = g.D.Disk.view c.args.disk.now in
    let v = g.D.Disk.view c.finish.new.disk in
    let w = g.D.Disk.view c.begin_with.new.disk in
    roll_names c.args.log u v w h ns keeps (g.met.D.Disk.is_true c.args.disk.now told) (g.met.D.Disk.is_true c.finish.new.disk told)
    (c.finish.ensures.finishes told h.current keeps.open_log).atomic (c.finish.ensures.no_other_file told) (c.in_ok-finish.ensures.finishes told h.current keeps.open_log).durable
    (subst (λ (n : Name). Throughout (OnlyAt n (HasEntries n []) v) 3 v w) c.requires.next (c.begin_with.ensures.begins told).atomic)

pub returns-in_err-finish-clause-appends : goal.returns-in_err-finish-clause-appends
returns-in_err-finish-clause-appends g c told h ns keeps =
    end_appends c.args.log (g.D.Disk.view c.args.disk.now) h ns keeps (g.D.Disk.view c.finish.new.disk) (g.met.D.Disk.is_true c.finish.new.disk told)
    (c.finish.ensures.finishes told h.current keeps.open_log).atomic (c.finish.ensures.no_other_file told)

pub returns-clause-appends : goal.returns-clause-appends
returns-clause-appends g c told h ns keeps =
    let v = g.D.Disk.view c.finish.new.disk in
    let w = g.D.Disk.view c.begin_with.new.disk in
    roll_appends c.args.log (g.D.Disk.view c.args.disk.now) h ns keeps v w (g.met.D.Disk.is_true c.finish.new.disk told)
    (c.finish.ensures.finishes told h.current keeps.open_log).atomic (c.finish.ensures.no_other_file told)
    (subst (λ (n : Name). Touches n v w) c.requires.next (c.begin_with.ensures.begins told).no_other_file)
