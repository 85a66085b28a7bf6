use Rattle.std.proofs.Common.{◌+◌, ◌*◌, ◌++◌, ◌∙◌, length, subst, arith}
use Rattle.log_model.specs.declared.name.Name.{Name}
use Rattle.disk_images.specs.Crash.{Throughout, OnlyAt}
use Rattle.disk_images.specs.OneFile.{Touches}
use Rattle.disk_images.proofs.Moments.{more_time}
use Rattle.disk_images.proofs.Torn.{then_only}
use Rattle.log_file.specs.LogText.{at_rest}
use Rattle.recovery_laws.specs.Alike.{AllAlike}
use Rattle.wal_split.specs.Some.{HasSome}
use Rattle.wal_split.proofs.Holding.{held_moments, still_held, copies_in}
use Rattle.wal_split.proofs.Copies.{begun_some, commit_some, open_text, open_durable, touches_on}
use Rattle.wal_split.proofs.copying.write_edits.Goals as goal

pub returns-in_err-log-clause-any_moment : goal.returns-in_err-log-clause-any_moment
returns-in_err-log-clause-any_moment g c told base held logged =
    let u = g.D.Disk.view c.args.disk.now in
    let v = g.D.Disk.view c.begin.new.disk in
    let es = c.args.entries.now in
    let free = c.requires.absent told in
    more_time (AllAlike base) 3 (7 + 4 * length es) u v (omega arith)
    (held_moments base u v c.args.name held (HasSome c.args.name es) 3 (copies_in base u held (g.met.D.Disk.is_true c.args.disk.now told) c.args.name es c.requires.kind free.0 free.1 logged)
    (begun_some c.args.name es 3 u v (c.begin.ensures.begins told).atomic))

pub returns-in_err-add_entries-clause-any_moment : goal.returns-in_err-add_entries-clause-any_moment
returns-in_err-add_entries-clause-any_moment g c told base held logged =
    let u = g.D.Disk.view c.args.disk.now in
    let v = g.D.Disk.view c.begin.new.disk in
    let w = g.D.Disk.view c.add_entries.new.disk in
    let es = c.args.entries.now in
    let n = c.args.name in
    let free = c.requires.absent told in
    let first = begun_some n es 3 u v (c.begin.ensures.begins told).atomic in
    let second = subst (λ (m : Name). Throughout (OnlyAt m (HasSome m es) v) (4 * length es) v w) c.in_ok-log.ensures.name (c.add_entries.ensures.any_moment told) in
    more_time (AllAlike base) (3 + 4 * length es) (7 + 4 * length es) u w (omega arith)
    (held_moments base u w n held (HasSome n es) (3 + 4 * length es) (copies_in base u held (g.met.D.Disk.is_true c.args.disk.now told) n es c.requires.kind free.0 free.1 logged)
    (then_only n (HasSome n es) 3 (4 * length es) u v w first second))

pub returns-in_err-commit-clause-any_moment : goal.returns-in_err-commit-clause-any_moment
returns-in_err-commit-clause-any_moment g c told base held logged =
    let u = g.D.Disk.view c.args.disk.now in
    let v = g.D.Disk.view c.begin.new.disk in
    let w = g.D.Disk.view c.add_entries.new.disk in
    let x = g.D.Disk.view c.commit.new.disk in
    let es = c.args.entries.now in
    let n = c.args.name in
    let free = c.requires.absent told in
    let named = c.add_entries.ensures.name ∙ c.in_ok-log.ensures.name in
    let in_it = c.in_ok-add_entries.ensures.added told in
    let first = begun_some n es 3 u v (c.begin.ensures.begins told).atomic in
    let second = subst (λ (m : Name). Throughout (OnlyAt m (HasSome m es) v) (4 * length es) v w) c.in_ok-log.ensures.name (c.add_entries.ensures.any_moment told) in
    let third = subst (λ (m : Name). Throughout (OnlyAt m (HasSome m es) w) 4 w x) named (commit_some c.add_entries.new.log w x es 4 in_it (c.commit.ensures.commits told in_it.done in_it.batch in_it.open_log in_it.staged).atomic) in
    more_time (AllAlike base) (3 + 4 * length es + 4) (7 + 4 * length es) u x (omega arith)
    (held_moments base u x n held (HasSome n es) (3 + 4 * length es + 4) (copies_in base u held (g.met.D.Disk.is_true c.args.disk.now told) n es c.requires.kind free.0 free.1 logged)
    (then_only n (HasSome n es) (3 + 4 * length es) 4 u w x (then_only n (HasSome n es) 3 (4 * length es) u v w first second) third))

pub returns-clause-any_moment : goal.returns-clause-any_moment
returns-clause-any_moment g c told base held logged =
    let u = g.D.Disk.view c.args.disk.now in
    let v = g.D.Disk.view c.begin.new.disk in
    let w = g.D.Disk.view c.add_entries.new.disk in
    let x = g.D.Disk.view c.commit.new.disk in
    let es = c.args.entries.now in
    let n = c.args.name in
    let free = c.requires.absent told in
    let named = c.add_entries.ensures.name ∙ c.in_ok-log.ensures.name in
    let in_it = c.in_ok-add_entries.ensures.added told in
    let first = begun_some n es 3 u v (c.begin.ensures.begins told).atomic in
    let second = subst (λ (m : Name). Throughout (OnlyAt m (HasSome m es) v) (4 * length es) v w) c.in_ok-log.ensures.name (c.add_entries.ensures.any_moment told) in
    let third = subst (λ (m : Name). Throughout (OnlyAt m (HasSome m es) w) 4 w x) named (commit_some c.add_entries.new.log w x es 4 in_it (c.commit.ensures.commits told in_it.done in_it.batch in_it.open_log in_it.staged).atomic) in
    more_time (AllAlike base) (3 + 4 * length es + 4) (7 + 4 * length es) u x (omega arith)
    (held_moments base u x n held (HasSome n es) (3 + 4 * length es + 4) (copies_in base u held (g.met.D.Disk.is_true c.args.disk.now told) n es c.requires.kind free.0 free.1 logged)
    (then_only n (HasSome n es) (3 + 4 * length es) 4 u w x (then_only n (HasSome n es) 3 (4 * length es) u v w first second) third))

pub returns-clause-held : goal.returns-clause-held
returns-clause-held g c told base held logged =
    let u = g.D.Disk.view c.args.disk.now in
    let v = g.D.Disk.view c.begin.new.disk in
    let w = g.D.Disk.view c.add_entries.new.disk in
    let x = g.D.Disk.view c.commit.new.disk in
    let es = c.args.entries.now in
    let n = c.args.name in
    let free = c.requires.absent told in
    let named = c.add_entries.ensures.name ∙ c.in_ok-log.ensures.name in
    let in_it = c.in_ok-add_entries.ensures.added told in
    let first = begun_some n es 3 u v (c.begin.ensures.begins told).atomic in
    let second = subst (λ (m : Name). Throughout (OnlyAt m (HasSome m es) v) (4 * length es) v w) c.in_ok-log.ensures.name (c.add_entries.ensures.any_moment told) in
    let third = subst (λ (m : Name). Throughout (OnlyAt m (HasSome m es) w) 4 w x) named (commit_some c.add_entries.new.log w x es 4 in_it (c.commit.ensures.commits told in_it.done in_it.batch in_it.open_log in_it.staged).atomic) in
    still_held base u x n held (HasSome n es) (3 + 4 * length es + 4) (at_rest n.number (in_it.done ++ in_it.batch)) (copies_in base u held (g.met.D.Disk.is_true c.args.disk.now told) n es c.requires.kind free.0 free.1 logged)
    (then_only n (HasSome n es) (3 + 4 * length es) 4 u w x (then_only n (HasSome n es) 3 (4 * length es) u v w first second) third)
    (touches_on n u w x (touches_on n u v w (c.begin.ensures.begins told).no_other_file (subst (λ (m : Name). Touches m v w) c.in_ok-log.ensures.name (c.add_entries.ensures.touches told))) (subst (λ (m : Name). Touches m w x) named (c.commit.ensures.no_other_file told)))
    (open_durable c.commit.new.self x n (in_it.done ++ in_it.batch) (c.in_ok-commit.ensures.commits told in_it.done in_it.batch in_it.open_log in_it.staged).durable (c.commit.ensures.same_name ∙ named))

pub returns-clause-written : goal.returns-clause-written
returns-clause-written g c told =
    let x = g.D.Disk.view c.commit.new.disk in
    let named = c.add_entries.ensures.name ∙ c.in_ok-log.ensures.name in
    let in_it = c.in_ok-add_entries.ensures.added told in
    open_text c.commit.new.self x c.args.name (in_it.done ++ in_it.batch) c.args.entries.now (c.in_ok-commit.ensures.commits told in_it.done in_it.batch in_it.open_log in_it.staged).durable (c.commit.ensures.same_name ∙ named) in_it.all
