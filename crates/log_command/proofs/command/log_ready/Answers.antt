use Rattle.std.proofs.Math.Logic.{∥∥₁_map, ∥∥₁_elim, ∥∥₁_prop}
use Rattle.std.proofs.Common.{◌∙◌, arith}
use Rattle.command_base.proofs.Endings.{time_of, each_then}
use Rattle.log_command.specs.Logged.{entries_in, LogMayLeave}
use Rattle.log_command.specs.Writing.{WasOrFirst}
use Rattle.log_command.proofs.Ending.{absent_of, nothing_ends, stopped_ends, whole_ends, logged_of, failed_of, may_leave}
use Rattle.log_command.proofs.command.log_ready.Goals as goal

pub write_log-requires-clause-empty : goal.write_log-requires-clause-empty
write_log-requires-clause-empty g c told = absent_of _ (c.requires.empty told)

pub write_log-requires-clause-entries : goal.write_log-requires-clause-entries
write_log-requires-clause-entries g c = ∥∥₁_map c.requires.frames (λ r. (entries_in r.0, r.1.spelled, r.1.entries))

pub returns-in-Nothing-clause-ends : goal.returns-in-Nothing-clause-ends
returns-in-Nothing-clause-ends g c told told_sink text script says of_script =
    nothing_ends _ text _ _ _ _ _ _ c.refuse.ensures.status (c.refuse.ensures.prints told_sink) (c.write_log.ensures.others told) (c.write_log.ensures.nothing told c.in-Nothing.is)

pub returns-in-Nothing-clause-moments : goal.returns-in-Nothing-clause-moments
returns-in-Nothing-clause-moments g c told =
    ∥∥₁_elim c.requires.frames ∥∥₁_prop (λ r. time_of (WasOrFirst (g.D.Disk.view c.args.disk.now) (entries_in r.0)) (g.D.Disk.view c.args.disk.now) (g.D.Disk.view c.write_log.new.disk) (c.write_log.ensures.any_moment told (entries_in r.0) r.1.spelled r.1.entries))

pub returns-in-Nothing-clause-any_moment : goal.returns-in-Nothing-clause-any_moment
returns-in-Nothing-clause-any_moment g c told text script says of_script =
    each_then (WasOrFirst (g.D.Disk.view c.args.disk.now) (entries_in script)) (LogMayLeave text (g.D.Disk.view c.args.disk.now)) (g.D.Disk.view c.args.disk.now) (g.D.Disk.view c.write_log.new.disk) (may_leave text script (g.D.Disk.view c.args.disk.now) says)
    (c.write_log.ensures.any_moment told (entries_in script) of_script.spelled of_script.entries)

pub returns-in-Stopped-clause-ends : goal.returns-in-Stopped-clause-ends
returns-in-Stopped-clause-ends g c told told_sink text script says of_script =
    stopped_ends _ text _ _ _ _ _ _ _ c.emit.ensures.either (c.emit.ensures.prints told_sink (λ e. absurd cc)) (c.in-Stopped.ensures.cause (λ e. absurd cc))
    (failed_of _ script c.args.ready.prepared.frames.items c.deref.result.now c.len-count.result c.in-Stopped.done says of_script (omega (arith, c.len-count.ensures, c.args.ready.prepared.frames.ok.0))
    (c.in-Stopped.ensures.stopped told (entries_in script) of_script.spelled of_script.entries) (c.in-Stopped.ensures.others told)
    (c.in-Stopped.ensures.alone told (λ e. absurd cc) (entries_in script) of_script.spelled of_script.entries) (c.deref.ensures.value ∙ c.put_stopped.ensures))

pub returns-in-Stopped-clause-moments : goal.returns-in-Stopped-clause-moments
returns-in-Stopped-clause-moments g c told =
    ∥∥₁_elim c.requires.frames ∥∥₁_prop (λ r. time_of (WasOrFirst (g.D.Disk.view c.args.disk.now) (entries_in r.0)) (g.D.Disk.view c.args.disk.now) (g.D.Disk.view c.write_log.new.disk) (c.write_log.ensures.any_moment told (entries_in r.0) r.1.spelled r.1.entries))

pub returns-in-Stopped-clause-any_moment : goal.returns-in-Stopped-clause-any_moment
returns-in-Stopped-clause-any_moment g c told text script says of_script =
    each_then (WasOrFirst (g.D.Disk.view c.args.disk.now) (entries_in script)) (LogMayLeave text (g.D.Disk.view c.args.disk.now)) (g.D.Disk.view c.args.disk.now) (g.D.Disk.view c.write_log.new.disk) (may_leave text script (g.D.Disk.view c.args.disk.now) says)
    (c.write_log.ensures.any_moment told (entries_in script) of_script.spelled of_script.entries)

pub returns-clause-ends : goal.returns-clause-ends
returns-clause-ends g c told told_sink text script says of_script =
    whole_ends _ text _ _ _ _ _ _ _ c.emit-in-Whole.ensures.either (c.emit-in-Whole.ensures.prints told_sink (λ e. absurd cc))
    (logged_of _ script c.args.ready.prepared.frames.items c.deref-in-Whole.result.now c.len-count.result says of_script (omega (arith, c.len-count.ensures, c.args.ready.prepared.frames.ok.0))
    (c.write_log.ensures.whole told c.in-Whole.is (entries_in script) of_script.spelled of_script.entries) (c.write_log.ensures.others told)
    (c.in-Whole.ensures.alone told (λ e. absurd cc) (entries_in script) of_script.spelled of_script.entries) (c.deref-in-Whole.ensures.value ∙ c.put_all_ok.ensures))

pub returns-clause-moments : goal.returns-clause-moments
returns-clause-moments g c told =
    ∥∥₁_elim c.requires.frames ∥∥₁_prop (λ r. time_of (WasOrFirst (g.D.Disk.view c.args.disk.now) (entries_in r.0)) (g.D.Disk.view c.args.disk.now) (g.D.Disk.view c.write_log.new.disk) (c.write_log.ensures.any_moment told (entries_in r.0) r.1.spelled r.1.entries))

pub returns-clause-any_moment : goal.returns-clause-any_moment
returns-clause-any_moment g c told text script says of_script =
    each_then (WasOrFirst (g.D.Disk.view c.args.disk.now) (entries_in script)) (LogMayLeave text (g.D.Disk.view c.args.disk.now)) (g.D.Disk.view c.args.disk.now) (g.D.Disk.view c.write_log.new.disk) (may_leave text script (g.D.Disk.view c.args.disk.now) says)
    (c.write_log.ensures.any_moment told (entries_in script) of_script.spelled of_script.entries)
