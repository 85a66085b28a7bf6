use Rattle.std.proofs.Common.{◌<◌, List, [], ℕ, length, Option, sym, ap, ◌∙◌, subst}
use Rattle.std.proofs.lemmas.List.{append-nil}
use Rattle.log_model.specs.LogText.{IsLogText, IsDamaged}
use Rattle.entry_frame.specs.declared.step.Step.TheVariants as steps
use Rattle.entry_frame.specs.Feed.{Feeding, key_of}
use Rattle.entry_frame.specs.Step.{IsNext}
use Rattle.entry_frame.proofs.FeedLaws.{damaged_by, ended_by, next_of, used_within, entry_is_next}
use Rattle.entry_frame.proofs.feed.Feed.finish.Goals as goal

pub returns-in-Damaged-clause-damaged : goal.returns-in-Damaged-clause-damaged
returns-in-Damaged-clause-damaged c = λ given taken h. damaged_by c.args.self given taken c.in-Damaged.at (ap (λ (f : Feeding). f.phase) (sym c.self.view_is) ∙ c.in-Damaged.is) h

pub returns-in-Ended-clause-text : goal.returns-in-Ended-clause-text
returns-in-Ended-clause-text c = λ given taken h. ended_by c.args.self given taken c.in-Ended.told (ap (λ (f : Feeding). f.phase) (sym c.self.view_is) ∙ c.in-Ended.is) h

pub returns-in-Entry-clause-text : goal.returns-in-Entry-clause-text
returns-in-Entry-clause-text c = λ given taken h.
    let next = next_of (key_of c.self.inside.file) c.self.inside.version c.self.inside.phase c.self.inside.count c.self.inside.at c.self.inside.bytes.items c.deref.result.now c.self.inside.read c.args.self given taken (steps.Entry c.in-Entry.version c.in-Entry.entry c.in-Entry.used) c.self.view_is c.in-Open.is c.deref.ensures.value c.in-Entry.ensures.next h in
    let within = used_within c.self.inside.bytes.items c.deref.result.now c.self.inside.read c.in-Entry.used c.deref.ensures.value c.in-Entry.ensures.whole.2 in
    let lt : c.in-Entry.used < length c.args.self.unread = subst (λ (f : Feeding). c.in-Entry.used < length f.unread) c.self.view_is within in
    let more = entry_is_next c.args.self.key c.args.self.unread given taken c.in-Entry.version c.in-Entry.entry c.in-Entry.used lt next in
    absurd (c.requires given taken h next.1 more)

pub returns-in-Ended-next_step-clause-text : goal.returns-in-Ended-next_step-clause-text
returns-in-Ended-next_step-clause-text c = λ given taken h.
    let next = next_of (key_of c.self.inside.file) c.self.inside.version c.self.inside.phase c.self.inside.count c.self.inside.at c.self.inside.bytes.items c.deref.result.now c.self.inside.read c.args.self given taken (steps.Ended c.in-Ended-next_step.told) c.self.view_is c.in-Open.is c.deref.ensures.value c.in-Ended-next_step.ensures.next h in
    subst (λ (x : List ℕ). IsLogText c.args.self.key x taken c.in-Ended-next_step.told) (append-nil given) (next [])

pub returns-in-Damaged-next_step-clause-damaged : goal.returns-in-Damaged-next_step-clause-damaged
returns-in-Damaged-next_step-clause-damaged c = λ given taken h.
    let next = next_of (key_of c.self.inside.file) c.self.inside.version c.self.inside.phase c.self.inside.count c.self.inside.at c.self.inside.bytes.items c.deref.result.now c.self.inside.read c.args.self given taken (steps.Damaged c.in-Damaged-next_step.at) c.self.view_is c.in-Open.is c.deref.ensures.value c.in-Damaged-next_step.ensures.next h in
    subst (λ (x : List ℕ). IsDamaged c.args.self.key x c.in-Damaged-next_step.at) (append-nil given) (next.1 [])

pub returns-in-Wait-None-clause-text : goal.returns-in-Wait-None-clause-text
returns-in-Wait-None-clause-text c = λ given taken h.
    let next = next_of (key_of c.self.inside.file) c.self.inside.version c.self.inside.phase c.self.inside.count c.self.inside.at c.self.inside.bytes.items c.deref.result.now c.self.inside.read c.args.self given taken (steps.Wait c.in-Wait-None.field-0) c.self.view_is c.in-Open.is c.deref.ensures.value c.in-Wait-None.ensures.next h in
    let none = subst (λ (w : Option ℕ). IsNext c.args.self.key c.args.self.unread given taken (steps.Wait w)) c.in-Wait-None.field-0-is next in
    none.1

pub returns-clause-damaged : goal.returns-clause-damaged
returns-clause-damaged c = λ given taken h.
    let next = next_of (key_of c.self.inside.file) c.self.inside.version c.self.inside.phase c.self.inside.count c.self.inside.at c.self.inside.bytes.items c.deref.result.now c.self.inside.read c.args.self given taken (steps.Wait c.in-Wait-Some.field-0) c.self.view_is c.in-Open.is c.deref.ensures.value c.in-Wait-Some.ensures.next h in
    let some = subst (λ (w : Option ℕ). IsNext c.args.self.key c.args.self.unread given taken (steps.Wait w)) c.in-Wait-Some.field-0-is next in
    some.1
