use Rattle.std.proofs.Common.{◌<◌, length, drop, sym, ap, ◌∙◌, subst, refl}
use Rattle.log_model.specs.Entry.{Entry}
use Rattle.log_model.specs.LogText.{in_version}
use Rattle.entry_frame.specs.declared.phase.Phase.TheVariants as phases
use Rattle.entry_frame.specs.declared.step.Step.TheVariants as steps
use Rattle.entry_frame.specs.Feed.{Feeding, HasNext, key_of, IsFed}
use Rattle.entry_frame.proofs.FeedLaws.{ended_is_drained, next_of, entry_is_next, used_within, wait_no_next, fed_ended, fed_damaged, fed_taken}
use Rattle.entry_frame.proofs.ChainLaws.{last_of}
use Rattle.entry_frame.proofs.feed.Feed.take.Goals as goal

pub returns-in-Ended-clause-drained : goal.returns-in-Ended-clause-drained
returns-in-Ended-clause-drained c = ended_is_drained c.args.self.now c.in-Ended.field-0 (ap (λ (f : Feeding). f.phase) (sym c.self.view_is) ∙ c.in-Ended.is)

pub returns-in-Wait-clause-drained : goal.returns-in-Wait-clause-drained
returns-in-Wait-clause-drained c = λ given taken h.
    wait_no_next c.args.self.now.key c.args.self.now.unread given taken c.in-Wait.field-0
    (next_of (key_of c.self.inside.file) c.self.inside.version c.self.inside.phase c.self.inside.count c.self.inside.at c.self.inside.bytes.items c.deref.result.now c.self.inside.read c.args.self.now given taken (steps.Wait c.in-Wait.field-0) c.self.view_is c.in-Open.is c.deref.ensures.value c.in-Wait.ensures.next h)

pub returns-in-Ended-next_step-clause-drained : goal.returns-in-Ended-next_step-clause-drained
returns-in-Ended-next_step-clause-drained c =
    let feed : Feeding = record { key = key_of c.self.inside.file; version = c.self.inside.version; phase = phases.Ended c.in-Ended-next_step.told; count = c.self.inside.count; at = c.self.inside.at; unread = drop c.self.inside.read c.self.inside.bytes.items } in
    ended_is_drained feed c.in-Ended-next_step.told refl

pub returns-in-Damaged-next_step-clause-taken : goal.returns-in-Damaged-next_step-clause-taken
returns-in-Damaged-next_step-clause-taken c = λ given taken h.
    let feed : Feeding = record { key = key_of c.self.inside.file; version = c.self.inside.version; phase = c.self.inside.phase; count = c.self.inside.count; at = c.self.inside.at; unread = drop c.self.inside.read c.self.inside.bytes.items } in
    let now : IsFed feed given taken = subst (λ (x : Feeding). IsFed x given taken) (sym c.self.view_is) h in
    let next = next_of (key_of c.self.inside.file) c.self.inside.version c.self.inside.phase c.self.inside.count c.self.inside.at c.self.inside.bytes.items c.deref.result.now c.self.inside.read feed given taken (steps.Damaged c.in-Damaged-next_step.at) refl c.in-Open.is c.deref.ensures.value c.in-Damaged-next_step.ensures.next now in
    fed_damaged (key_of c.self.inside.file) c.self.inside.version c.self.inside.phase c.self.inside.count c.self.inside.at (drop c.self.inside.read c.self.inside.bytes.items) given taken c.in-Damaged-next_step.at now next

pub returns-clause-whole : goal.returns-clause-whole
returns-clause-whole c = λ given taken h.
    let next = next_of (key_of c.self.inside.file) c.self.inside.version c.self.inside.phase c.self.inside.count c.self.inside.at c.self.inside.bytes.items c.deref.result.now c.self.inside.read c.args.self.now given taken (steps.Entry c.in-Entry.version c.in-Entry.entry c.in-Entry.used) c.self.view_is c.in-Open.is c.deref.ensures.value c.in-Entry.ensures.next h in
    let within = used_within c.self.inside.bytes.items c.deref.result.now c.self.inside.read c.in-Entry.used c.deref.ensures.value c.in-Entry.ensures.whole.2 in
    let lt : c.in-Entry.used < length c.args.self.now.unread = subst (λ (f : Feeding). c.in-Entry.used < length f.unread) c.self.view_is within in
    let more = entry_is_next c.args.self.now.key c.args.self.now.unread given taken c.in-Entry.version c.in-Entry.entry c.in-Entry.used lt next in
    subst (λ (e : Entry). HasNext c.args.self.now.key given taken e) (sym (c.in_ok-own_entry-in-Entry.ensures next.1 (last_of (in_version c.in-Entry.version c.args.self.now.key) taken next.1 next.2).entry next.3)) more

pub returns-clause-taken : goal.returns-clause-taken
returns-clause-taken c = λ given taken h.
    let feed : Feeding = record { key = key_of c.self.inside.file; version = c.self.inside.version; phase = c.self.inside.phase; count = c.self.inside.count; at = c.self.inside.at; unread = drop c.self.inside.read c.self.inside.bytes.items } in
    let now : IsFed feed given taken = subst (λ (x : Feeding). IsFed x given taken) (sym c.self.view_is) h in
    let next = next_of (key_of c.self.inside.file) c.self.inside.version c.self.inside.phase c.self.inside.count c.self.inside.at c.self.inside.bytes.items c.deref.result.now c.self.inside.read feed given taken (steps.Entry c.in-Entry.version c.in-Entry.entry c.in-Entry.used) refl c.in-Open.is c.deref.ensures.value c.in-Entry.ensures.next now in
    let lt : c.in-Entry.used < length (drop c.self.inside.read c.self.inside.bytes.items) = used_within c.self.inside.bytes.items c.deref.result.now c.self.inside.read c.in-Entry.used c.deref.ensures.value c.in-Entry.ensures.whole.2 in
    fed_taken (key_of c.self.inside.file) c.self.inside.version c.in-Entry.version c.self.inside.phase c.self.inside.count c.self.inside.at c.self.inside.read c.in-Entry.used c.self.inside.bytes.items given taken c.in-Entry.entry c.in_ok-own_entry-in-Entry.field-0 c.in-Open.is now lt next (c.in_ok-own_entry-in-Entry.ensures next.1 (last_of (in_version c.in-Entry.version (key_of c.self.inside.file)) taken next.1 next.2).entry next.3)

pub returns-in-Ended-next_step-clause-taken : goal.returns-in-Ended-next_step-clause-taken
returns-in-Ended-next_step-clause-taken c = λ given taken h.
    let feed : Feeding = record { key = key_of c.self.inside.file; version = c.self.inside.version; phase = c.self.inside.phase; count = c.self.inside.count; at = c.self.inside.at; unread = drop c.self.inside.read c.self.inside.bytes.items } in
    let now : IsFed feed given taken = subst (λ (x : Feeding). IsFed x given taken) (sym c.self.view_is) h in
    let next = next_of (key_of c.self.inside.file) c.self.inside.version c.self.inside.phase c.self.inside.count c.self.inside.at c.self.inside.bytes.items c.deref.result.now c.self.inside.read feed given taken (steps.Ended c.in-Ended-next_step.told) refl c.in-Open.is c.deref.ensures.value c.in-Ended-next_step.ensures.next now in
    fed_ended (key_of c.self.inside.file) c.self.inside.version c.self.inside.phase c.self.inside.count c.self.inside.at (drop c.self.inside.read c.self.inside.bytes.items) given taken c.in-Ended-next_step.told now next
