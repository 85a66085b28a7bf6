use Rattle.std.proofs.Common.{refl, sym, subst, arith}
use Rattle.crossbeam_queue.specs.Passes.{view}
use Rattle.log_device.specs.Whole.{log_of}
use Rattle.log_halves.specs.Moves.{WasFull}
use Rattle.log_halves.proofs.ItemLaws.{moved_since}
use Rattle.log_halves.proofs.Numbers.{told_trans}
use Rattle.log_halves.proofs.Faults.{from_some}
use Rattle.log_halves.proofs.consumer.ConsumerHalf.roll.Goals as goal

pub returns-clause-rolls : goal.returns-clause-rolls
returns-clause-rolls g c whole =
    let late = c.drain.new.committer in
    from_some (log_of late.device) (c.if-drain.ensures.unbroken refl) (λ file is. record {
      before = late;
      popped = sym c.roll.ensures.same.1;
      file = file;
      is = is;
      rolled = c.roll.ensures.rolled file is;
      none = λ n nothing. c.roll.ensures.none file n is nothing;
      empty = λ none. c.roll.ensures.empty file is none whole;
    })

pub returns-then-drain-clause-rolls : goal.returns-then-drain-clause-rolls
returns-then-drain-clause-rolls g c whole = absurd (whole (c.if-drain.ensures.failed refl))

pub returns-then-move_all-clause-rolls : goal.returns-then-move_all-clause-rolls
returns-then-move_all-clause-rolls g c whole = absurd (whole (c.if-move_all.ensures.failed refl))

pub returns-clause-later : goal.returns-clause-later
returns-clause-later g c =
    let old = c.args.committer.now in
    let all = c.move_all.new.committer in
    let late = c.drain.new.committer in
    let new = c.roll.new.self in
    let moved = told_trans old.regions old.device all.regions all.device late.regions late.device c.move_all.ensures.later c.drain.ensures.later in
    told_trans old.regions old.device late.regions late.device new.regions new.device moved c.roll.ensures.later

pub returns-clause-drained : goal.returns-clause-drained
returns-clause-drained g c _ =
    let done = c.if-drain.ensures.done refl in
    (done.0, subst (WasFull 0) (sym c.roll.ensures.same.1) done.1)

pub returns-clause-moved : goal.returns-clause-moved
returns-clause-moved g c _ =
    let was = view c.args.self.now.consumer.pass in
    moved_since was was (view c.move_all.new.self.consumer.pass) (view c.drain.new.self.consumer.pass) (omega arith) c.drain.ensures.same.2 (c.if-move_all.ensures.moved refl)

pub returns-then-drain-clause-later : goal.returns-then-drain-clause-later
returns-then-drain-clause-later g c =
    let old = c.args.committer.now in
    let all = c.move_all.new.committer in
    let late = c.drain.new.committer in
    told_trans old.regions old.device all.regions all.device late.regions late.device c.move_all.ensures.later c.drain.ensures.later

pub returns-then-drain-clause-drained : goal.returns-then-drain-clause-drained
returns-then-drain-clause-drained g c whole = absurd (whole (c.if-drain.ensures.failed refl))

pub returns-then-drain-clause-moved : goal.returns-then-drain-clause-moved
returns-then-drain-clause-moved g c whole = absurd (whole (c.if-drain.ensures.failed refl))
