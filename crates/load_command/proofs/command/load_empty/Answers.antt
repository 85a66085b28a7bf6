use Rattle.std.proofs.Common.{refl, sym, ap, ◌∙◌, subst, inl, inr}
use Rattle.run_command.specs.recover_command.Recovered.{IsStoreDamage}
use Rattle.run_model.specs.Headline.{MayKeep}
use Rattle.command_base.proofs.Endings.{each_on, no_moment}
use Rattle.script_model.specs.Outputs.{refused_memory}
use Rattle.made_script.specs.Counts.{counts_of}
use Rattle.command_base.specs.Status.{refusal_line, IsComplete}
use Rattle.load_command.specs.Statuses.{IsClosedEnd}
use Rattle.load_command.proofs.Damages.{other_status, opened_damage}
use Rattle.load_command.proofs.Telling.{memory_ends}
use Rattle.load_command.proofs.Running.{untouched, ended_from, rose_later, rose_then, fault_cases, not_opened, opening_end, opening_fault, opening_sink, opening_complete}
use Rattle.load_command.proofs.command.load_empty.Goals as goal

-- ---- no memory for the script

pub returns-in_default-clause-any_moment : goal.returns-in_default-clause-any_moment
returns-in_default-clause-any_moment g c told = no_moment (MayKeep (g.D.Disk.view c.args.disk)) (g.D.Disk.view c.args.disk) (untouched (g.D.Disk.view c.args.disk))

pub returns-in_default-clause-ends : goal.returns-in_default-clause-ends
returns-in_default-clause-ends g c told sink script =
    memory_ends c.refuse.result c.args.options script (g.K.Sink.taken c.args.out.now) (g.K.Sink.taken c.refuse.new.sink) (g.D.Disk.view c.args.disk) (g.D.Disk.view c.args.disk) _ _ c.refuse.ensures.status
    (untouched (g.D.Disk.view c.args.disk)) (c.refuse.ensures.prints sink refused_memory refl)

pub returns-in_default-clause-refusal : goal.returns-in_default-clause-refusal
returns-in_default-clause-refusal g c sink is text line = c.refuse.ensures.prints sink text (ap refusal_line (sym c.refuse.ensures.status) ∙ line)

pub returns-in_default-clause-complete : goal.returns-in_default-clause-complete
returns-in_default-clause-complete g c told disk sink = subst IsComplete (sym c.refuse.ensures.status) tt

-- ---- closed

pub returns-in-Closed-clause-any_moment : goal.returns-in-Closed-clause-any_moment
returns-in-Closed-clause-any_moment g c told =
    each_on (MayKeep (g.D.Disk.view c.args.disk)) (g.D.Disk.view c.args.disk) (g.D.Disk.view c.in-Closed.disk) (g.D.Disk.view c.end_load-status.new.disk) (c.in-Closed.ensures.any_moment told)
    (c.end_load-status.ensures.any_moment told c.args.options c.args.disk
    (ended_from c.args.options _ (g.D.Disk.view c.args.disk) (g.D.Disk.view c.in-Closed.disk) c.in-Closed.regions.items c.in-Closed.replies.items c.in-Closed.spent c.in-Closed.broken c.decided_status-status.result
    c.requires.options (c.requires.empty told) c.in-Ok.ensures.made (c.in-Closed.ensures.ran told) c.decided_status-status.ensures.either))

pub returns-in-Closed-clause-ends : goal.returns-in-Closed-clause-ends
returns-in-Closed-clause-ends g c told sink script =
    c.end_load-status.ensures.ends told sink c.args.options c.args.disk script (c.count_calls-counts.ensures ∙ ap counts_of c.in-Ok.ensures.made)
    (ended_from c.args.options _ (g.D.Disk.view c.args.disk) (g.D.Disk.view c.in-Closed.disk) c.in-Closed.regions.items c.in-Closed.replies.items c.in-Closed.spent c.in-Closed.broken c.decided_status-status.result
    c.requires.options (c.requires.empty told) c.in-Ok.ensures.made (c.in-Closed.ensures.ran told) c.decided_status-status.ensures.either)
    (λ is. rose_later _ _ _ (c.in-Closed.ensures.cause (c.decided_status-status.ensures.cause is)) c.end_load-status.ensures.later.0) c.in-Closed.ensures.later

pub returns-in-Closed-clause-refusal : goal.returns-in-Closed-clause-refusal
returns-in-Closed-clause-refusal g c sink is text line = c.end_load-status.ensures.refusal sink is text line

pub returns-in-Closed-clause-disk_cause : goal.returns-in-Closed-clause-disk_cause
returns-in-Closed-clause-disk_cause g c is = elim (fault_cases c.decided_status-status.result) [
  | inl fault ↦ rose_later _ _ _ (c.in-Closed.ensures.cause (c.decided_status-status.ensures.cause fault)) c.end_load-status.ensures.later.0
  | inr other ↦ rose_then _ _ _ c.in-Closed.ensures.later (c.end_load-status.ensures.disk_cause is other)
]

pub returns-in-Closed-clause-complete : goal.returns-in-Closed-clause-complete
returns-in-Closed-clause-complete g c told disk sink =
    c.end_load-status.ensures.complete told c.args.options c.args.disk
    (ended_from c.args.options _ (g.D.Disk.view c.args.disk) (g.D.Disk.view c.in-Closed.disk) c.in-Closed.regions.items c.in-Closed.replies.items c.in-Closed.spent c.in-Closed.broken c.decided_status-status.result
    c.requires.options (c.requires.empty told) c.in-Ok.ensures.made (c.in-Closed.ensures.ran told) c.decided_status-status.ensures.either)
    (λ is. disk (rose_later _ _ _ (c.in-Closed.ensures.cause (c.decided_status-status.ensures.cause is)) c.end_load-status.ensures.later.0)) (λ rose. disk (rose_then _ _ _ c.in-Closed.ensures.later rose)) sink

-- ---- left

pub returns-in-Left-clause-ends : goal.returns-in-Left-clause-ends
returns-in-Left-clause-ends g c told sink script =
    memory_ends c.refuse-in-Left.result c.args.options script (g.K.Sink.taken c.args.out.now) (g.K.Sink.taken c.refuse-in-Left.new.sink) (g.D.Disk.view c.args.disk) (g.D.Disk.view c.in-Left.disk) _ _ c.refuse-in-Left.ensures.status
    (c.in-Left.ensures.ran told) (c.refuse-in-Left.ensures.prints sink refused_memory refl)

pub returns-in-Left-clause-refusal : goal.returns-in-Left-clause-refusal
returns-in-Left-clause-refusal g c sink is text line = c.refuse-in-Left.ensures.prints sink text (ap refusal_line (sym c.refuse-in-Left.ensures.status) ∙ line)

pub returns-in-Left-clause-complete : goal.returns-in-Left-clause-complete
returns-in-Left-clause-complete g c told disk sink = subst IsComplete (sym c.refuse-in-Left.ensures.status) tt

-- ---- not opened

pub returns-in-NotOpened-clause-ends : goal.returns-in-NotOpened-clause-ends
returns-in-NotOpened-clause-ends g c told sink script =
    not_opened c.in-NotOpened.why c.refuse-in-NotOpened.result c.args.options script (g.K.Sink.taken c.args.out.now) (g.K.Sink.taken c.refuse-in-NotOpened.new.sink) (g.D.Disk.view c.args.disk) (g.D.Disk.view c.in-NotOpened.disk) _ _
    (c.refuse-in-NotOpened.ensures.status ∙ c.status_of.ensures) (c.in-NotOpened.ensures.ran told).0 (λ text line. c.refuse-in-NotOpened.ensures.prints sink text (ap refusal_line c.status_of.ensures ∙ line))

pub returns-in-NotOpened-clause-refusal : goal.returns-in-NotOpened-clause-refusal
returns-in-NotOpened-clause-refusal g c sink is text line = c.refuse-in-NotOpened.ensures.prints sink text (ap refusal_line (sym c.refuse-in-NotOpened.ensures.status) ∙ line)

pub returns-in-NotOpened-clause-status : goal.returns-in-NotOpened-clause-status
returns-in-NotOpened-clause-status g c = subst IsClosedEnd (sym (c.refuse-in-NotOpened.ensures.status ∙ c.status_of.ensures)) (opening_end c.in-NotOpened.why)

pub returns-in-NotOpened-clause-disk_cause : goal.returns-in-NotOpened-clause-disk_cause
returns-in-NotOpened-clause-disk_cause g c is = c.in-NotOpened.ensures.cause (opening_fault c.in-NotOpened.why (sym (c.refuse-in-NotOpened.ensures.status ∙ c.status_of.ensures) ∙ is))

pub returns-in-NotOpened-clause-sink_cause : goal.returns-in-NotOpened-clause-sink_cause
returns-in-NotOpened-clause-sink_cause g c is = absurd (opening_sink c.in-NotOpened.why (sym (c.refuse-in-NotOpened.ensures.status ∙ c.status_of.ensures) ∙ is))

pub returns-in-NotOpened-clause-complete : goal.returns-in-NotOpened-clause-complete
returns-in-NotOpened-clause-complete g c told disk sink =
    subst IsComplete (sym (c.refuse-in-NotOpened.ensures.status ∙ c.status_of.ensures))
    (opening_complete c.in-NotOpened.why (g.D.Disk.view c.args.disk).files _ (c.requires.empty told) (λ is. disk (c.in-NotOpened.ensures.cause is)) (c.in-NotOpened.ensures.ran told).1)

pub returns-in-NotOpened-clause-damage : goal.returns-in-NotOpened-clause-damage
returns-in-NotOpened-clause-damage g c told =
    other_status c.refuse-in-NotOpened.result _ (IsStoreDamage (g.D.Disk.view c.in-NotOpened.disk).files) (c.refuse-in-NotOpened.ensures.status ∙ c.status_of.ensures)
    (opened_damage c.in-NotOpened.why (g.D.Disk.view c.args.disk).files (g.D.Disk.view c.in-NotOpened.disk).files (c.in-NotOpened.ensures.ran told).1)

-- ---- no damage

pub returns-in_default-clause-damage : goal.returns-in_default-clause-damage
returns-in_default-clause-damage g c told = other_status c.refuse.result _ (IsStoreDamage (g.D.Disk.view c.args.disk).files) c.refuse.ensures.status tt

pub returns-in-Left-clause-damage : goal.returns-in-Left-clause-damage
returns-in-Left-clause-damage g c told = other_status c.refuse-in-Left.result _ (IsStoreDamage (g.D.Disk.view c.in-Left.disk).files) c.refuse-in-Left.ensures.status tt

pub returns-in-Closed-clause-damage : goal.returns-in-Closed-clause-damage
returns-in-Closed-clause-damage g c told = c.end_load-status.ensures.damage told
