use Rattle.std.proofs.Common.{ℕ, refl, sym, ◌∙◌, subst, arith}
use Rattle.crossbeam_queue.specs.Passes.{view}
use Rattle.log_device.specs.declared.error.DeviceFlush.TheVariants as refusals
use Rattle.log_device.specs.Whole.{numbers_of}
use Rattle.log_berth.specs.Words.{NoMore}
use Rattle.log_berth.proofs.Joined.{no_more-trans}
use Rattle.log_halves.specs.Numbers.{told_numbers}
use Rattle.log_halves.specs.Moves.{WasFull}
use Rattle.log_halves.proofs.ItemLaws.{moved_since}
use Rattle.log_halves.proofs.Numbers.{synced_rose, stored_rose, told_trans}
use Rattle.log_halves.proofs.Faults.{then_whole}
use Rattle.log_halves.proofs.consumer.ConsumerHalf.flush.Goals as goal

pub returns-clause-flushed : goal.returns-clause-flushed
returns-clause-flushed g c =
    let old = c.args.committer.now in
    let mid = c.move_up_to.new.committer in
    let all = c.move_all.new.committer in
    let late = c.drain.new.committer in
    let new = c.flush.new.self in
    let done = c.if-move_up_to.ensures.done refl in
    let same = c.drain.ensures.same.0 ∙ c.move_all.ensures.same in
    let moved = no_more-trans (told_numbers mid.regions (numbers_of mid.device)) (told_numbers all.regions (numbers_of all.device)) (told_numbers late.regions (numbers_of late.device)) c.move_all.ensures.later c.drain.ensures.later in
    let below = subst (λ (n : ℕ). NoMore (told_numbers old.regions (numbers_of old.device)) (told_numbers n (numbers_of late.device))) (same ∙ c.move_up_to.ensures.same)
    (no_more-trans (told_numbers old.regions (numbers_of old.device)) (told_numbers mid.regions (numbers_of mid.device)) (told_numbers late.regions (numbers_of late.device)) c.move_up_to.ensures.later moved) in
    let later = subst (λ (n : ℕ). NoMore (told_numbers mid.regions (numbers_of mid.device)) (told_numbers n (numbers_of new.device))) (c.flush.ensures.same.0 ∙ same)
    (no_more-trans (told_numbers mid.regions (numbers_of mid.device)) (told_numbers late.regions (numbers_of late.device)) (told_numbers new.regions (numbers_of new.device)) moved c.flush.ensures.later) in
    let rose = synced_rose mid.regions (numbers_of mid.device) (numbers_of new.device) later c.args.region c.requires.region.0 (omega (arith, c.requires.region, c.move_up_to.ensures.same)) in
    let stood = stored_rose old.regions (numbers_of old.device) (numbers_of late.device) below c.args.region c.requires.region.0 c.requires.region.1 in
    then_whole c.flush.result refusals.WriteFault c.flush.ensures.broken.1
    (λ n unbroken said. (omega (arith, done, rose, said.last), record { last = said.last; stored = said.stored; above = λ all. omega (arith, stood, said.above all) })) c.flush.ensures.flushed

pub returns-clause-nothing : goal.returns-clause-nothing
returns-clause-nothing g c n is =
    let mid = c.move_up_to.new.committer in
    let all = c.move_all.new.committer in
    let late = c.drain.new.committer in
    let new = c.flush.new.self in
    let done = c.if-move_up_to.ensures.done refl in
    let same = c.drain.ensures.same.0 ∙ c.move_all.ensures.same in
    let moved = no_more-trans (told_numbers mid.regions (numbers_of mid.device)) (told_numbers all.regions (numbers_of all.device)) (told_numbers late.regions (numbers_of late.device)) c.move_all.ensures.later c.drain.ensures.later in
    let later = subst (λ (n : ℕ). NoMore (told_numbers mid.regions (numbers_of mid.device)) (told_numbers n (numbers_of new.device))) (c.flush.ensures.same.0 ∙ same)
    (no_more-trans (told_numbers mid.regions (numbers_of mid.device)) (told_numbers late.regions (numbers_of late.device)) (told_numbers new.regions (numbers_of new.device)) moved c.flush.ensures.later) in
    let rose = synced_rose mid.regions (numbers_of mid.device) (numbers_of new.device) later c.args.region c.requires.region.0 (omega (arith, c.requires.region, c.move_up_to.ensures.same)) in
    let said = c.flush.ensures.nothing n is in
    (omega (arith, done, rose, said.last), said)

pub returns-clause-later : goal.returns-clause-later
returns-clause-later g c =
    let old = c.args.committer.now in
    let mid = c.move_up_to.new.committer in
    let all = c.move_all.new.committer in
    let late = c.drain.new.committer in
    let new = c.flush.new.self in
    let first = told_trans old.regions old.device mid.regions mid.device all.regions all.device c.move_up_to.ensures.later c.move_all.ensures.later in
    let last = told_trans all.regions all.device late.regions late.device new.regions new.device c.drain.ensures.later c.flush.ensures.later in
    told_trans old.regions old.device all.regions all.device new.regions new.device first last

pub returns-clause-drained : goal.returns-clause-drained
returns-clause-drained g c _ =
    let done = c.if-drain.ensures.done refl in
    (done.0, subst (WasFull 0) (sym c.flush.ensures.same.1) done.1)

pub returns-clause-moved : goal.returns-clause-moved
returns-clause-moved g c _ =
    let mid = view c.move_up_to.new.self.consumer.pass in
    let all = view c.move_all.new.self.consumer.pass in
    moved_since (view c.args.self.now.consumer.pass) mid all (view c.drain.new.self.consumer.pass) c.move_up_to.ensures.grows c.drain.ensures.same.2 (c.if-move_all.ensures.moved refl)

pub returns-then-drain-clause-later : goal.returns-then-drain-clause-later
returns-then-drain-clause-later g c =
    let old = c.args.committer.now in
    let mid = c.move_up_to.new.committer in
    let all = c.move_all.new.committer in
    let late = c.drain.new.committer in
    let first = told_trans old.regions old.device mid.regions mid.device all.regions all.device c.move_up_to.ensures.later c.move_all.ensures.later in
    told_trans old.regions old.device all.regions all.device late.regions late.device first c.drain.ensures.later

pub returns-then-drain-clause-drained : goal.returns-then-drain-clause-drained
returns-then-drain-clause-drained g c whole = absurd (whole (c.if-drain.ensures.failed refl))

pub returns-then-drain-clause-moved : goal.returns-then-drain-clause-moved
returns-then-drain-clause-moved g c whole = absurd (whole (c.if-drain.ensures.failed refl))

pub returns-then-move_all-clause-later : goal.returns-then-move_all-clause-later
returns-then-move_all-clause-later g c =
    let old = c.args.committer.now in
    let mid = c.move_up_to.new.committer in
    let all = c.move_all.new.committer in
    told_trans old.regions old.device mid.regions mid.device all.regions all.device c.move_up_to.ensures.later c.move_all.ensures.later

pub returns-then-move_all-clause-drained : goal.returns-then-move_all-clause-drained
returns-then-move_all-clause-drained g c whole = absurd (whole (c.if-move_all.ensures.failed refl))

pub returns-then-move_all-clause-moved : goal.returns-then-move_all-clause-moved
returns-then-move_all-clause-moved g c whole = absurd (whole (c.if-move_all.ensures.failed refl))

pub returns-clause-flushes : goal.returns-clause-flushes
returns-clause-flushes g c whole = record { before = c.drain.new.committer; popped = sym c.flush.ensures.same.1; flush = c.flush.ensures.flush }

pub returns-then-drain-clause-flushes : goal.returns-then-drain-clause-flushes
returns-then-drain-clause-flushes g c whole = absurd (whole (c.if-drain.ensures.failed refl))

pub returns-then-move_all-clause-flushes : goal.returns-then-move_all-clause-flushes
returns-then-move_all-clause-flushes g c whole = absurd (whole (c.if-move_all.ensures.failed refl))

pub returns-then-move_up_to-clause-flushes : goal.returns-then-move_up_to-clause-flushes
returns-then-move_up_to-clause-flushes g c whole = absurd (whole (c.if-move_up_to.ensures.failed refl))
