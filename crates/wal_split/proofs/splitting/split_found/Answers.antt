use Rattle.std.proofs.Common.{ℕ, List, Option, None, length, refl, sym, ap, subst, ◌∙◌}
use Rattle.log_model.specs.declared.name.Name.{Name}
use Rattle.std.proofs.Math.Logic.{∥∥₁_map}
use Rattle.recovery_laws.specs.Change.{HasText}
use Rattle.found_files.proofs.Causes.{same_cause, cause_since, no_error, error_of}
use Rattle.wal_split.specs.Logs.{log_name}
use Rattle.wal_split.proofs.Turning.{edits_other}
use Rattle.wal_split.proofs.Covering.{still_free, now_kept, then_both}
use Rattle.wal_split.proofs.splitting.split_found.Goals as goal

pub rename_logs-requires-clause-free : goal.rename_logs-requires-clause-free
rename_logs-requires-clause-free g c told =
    let v = g.D.Disk.view c.args.disk.now in
    let w = g.D.Disk.view c.write_all.new.disk in
    ∥∥₁_map (c.requires.logs told) (λ free. still_free v w c.args.jobs.now c.requires.jobs (c.in_ok-write_all.ensures.others told) (c.in_ok-write_all.ensures.gone told) c.args.logs.now free)

pub returns-in-Ok-clause-any_moment : goal.returns-in-Ok-clause-any_moment
returns-in-Ok-clause-any_moment g c told base held logged covered =
    let u = g.D.Disk.view c.args.disk.now in
    let v = g.D.Disk.view c.write_all.new.disk in
    then_both base u v (g.D.Disk.view c.rename_logs.new.disk) (length c.args.logs.now) (c.write_all.ensures.any_moment told base held logged)
    (c.rename_logs.ensures.any_moment told base (c.in_ok-write_all.ensures.held told base held logged)
    (now_kept u v c.args.jobs.now c.requires.jobs (c.in_ok-write_all.ensures.others told) (c.in_ok-write_all.ensures.written told) c.args.logs.now covered))

pub returns-in-Err-clause-any_moment : goal.returns-in-Err-clause-any_moment
returns-in-Err-clause-any_moment g c told base held logged covered =
    let u = g.D.Disk.view c.args.disk.now in
    let v = g.D.Disk.view c.write_all.new.disk in
    then_both base u v (g.D.Disk.view c.rename_logs.new.disk) (length c.args.logs.now) (c.write_all.ensures.any_moment told base held logged)
    (c.rename_logs.ensures.any_moment told base (c.in_ok-write_all.ensures.held told base held logged)
    (now_kept u v c.args.jobs.now c.requires.jobs (c.in_ok-write_all.ensures.others told) (c.in_ok-write_all.ensures.written told) c.args.logs.now covered))

pub returns-in-Ok-clause-held : goal.returns-in-Ok-clause-held
returns-in-Ok-clause-held g c told base held logged covered =
    let u = g.D.Disk.view c.args.disk.now in
    let v = g.D.Disk.view c.write_all.new.disk in
    c.in-Ok.ensures.held told base (c.in_ok-write_all.ensures.held told base held logged)
    (now_kept u v c.args.jobs.now c.requires.jobs (c.in_ok-write_all.ensures.others told) (c.in_ok-write_all.ensures.written told) c.args.logs.now covered)

pub returns-in-Ok-clause-moved : goal.returns-in-Ok-clause-moved
returns-in-Ok-clause-moved g c told n has =
    c.in-Ok.ensures.moved told n has ∙ c.in_ok-write_all.ensures.others told (log_name n) (λ j in_jobs some is. absurd (cc (ap (λ (x : Name). x.kind) is ∙ c.requires.jobs.kind j in_jobs)))

pub returns-in-Ok-clause-others : goal.returns-in-Ok-clause-others
returns-in-Ok-clause-others g c told m no_job other = c.in-Ok.ensures.others told m other ∙ c.in_ok-write_all.ensures.others told m no_job

pub returns-in-Ok-clause-written : goal.returns-in-Ok-clause-written
returns-in-Ok-clause-written g c told j e has member =
    subst (λ (o : Option (List ℕ)). HasText j.name j.entries.items None o) (sym (c.in-Ok.ensures.others told j.name (edits_other c.args.logs.now j.name (c.requires.jobs.kind j has)))) (c.in_ok-write_all.ensures.written told j e has member)

pub returns-in_err-write_all-clause-any_moment : goal.returns-in_err-write_all-clause-any_moment
returns-in_err-write_all-clause-any_moment g c told base held logged covered = c.write_all.ensures.any_moment told base held logged

pub returns-in_err-write_all-clause-cause : goal.returns-in_err-write_all-clause-cause
returns-in_err-write_all-clause-cause g c =
    same_cause c.in_err-write_all.ensures.cause (λ is. error_of (Unit {0}) c.in_err-write_all.field-0.0 _ c.from_residual.result c.from_residual.ensures.1 is)

pub returns-in-Ok-clause-gone : goal.returns-in-Ok-clause-gone
returns-in-Ok-clause-gone g c told = c.in-Ok.ensures.gone told

pub returns-in-Ok-clause-cause : goal.returns-in-Ok-clause-cause
returns-in-Ok-clause-cause g c = cause_since c.rename_logs.ensures.cause c.write_all.ensures.cause.later (λ is. absurd (no_error is))

pub returns-in-Err-clause-cause : goal.returns-in-Err-clause-cause
returns-in-Err-clause-cause g c = cause_since c.in-Err.ensures.cause c.write_all.ensures.cause.later (λ is. refl)
