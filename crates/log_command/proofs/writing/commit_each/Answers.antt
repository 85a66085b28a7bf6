use Rattle.std.proofs.Math.Logic.{∥∥₁_map}
use Rattle.std.proofs.Common.{◌≡◌, ◌∙◌, ◌*◌, ◌+◌, ◌∷◌, [], refl, sym, ap, subst, arith, take, length, List}
use Rattle.std.proofs.lemmas.List.{length-map}
use Rattle.log_model.specs.Entry.{Entry, entry_frame}
use Rattle.log_file.specs.Open.{IsOpen}
use Rattle.command_base.specs.LogFiles.{log_name}
use Rattle.log_command.proofs.Committing.{frame_at, step_to, either_log, committed_on, open_first}
use Rattle.disk_images.proofs.Moments.{more_time, at_once}
use Rattle.log_command.specs.Logged.{HasFirst}
use Rattle.log_command.proofs.writing.commit_each.Goals as goal

pub commit_one-requires-clause-begun : goal.commit_one-requires-clause-begun
commit_one-requires-clause-begun g c told =
    ∥∥₁_map c.requires.entries (λ r. (take c.loop-done.done r.0, c.loop-done.invariant.opened told r.0 r.1 r.2))

pub commit_one-requires-clause-entry : goal.commit_one-requires-clause-entry
commit_one-requires-clause-entry g c =
    ∥∥₁_map c.requires.entries (λ r.
    let at = frame_at c.args.frames.now r.0 c.loop-done.done c.index-frames-done.result c.index-frames-done.result r.1 (omega (arith, c.loop-done-test.true)) r.2 c.index-frames-done.is in
    (at.0, at.3, at.2))

pub returns-in-Err-clause-stopped : goal.returns-in-Err-clause-stopped
returns-in-Err-clause-stopped g c told es is each =
    let at = frame_at c.args.frames.now es c.loop-done.done c.index-frames-done.result c.index-frames-done.result is (omega (arith, c.loop-done-test.true)) each c.index-frames-done.is in
    let lens : _ ≡ _ = ap length is ∙ length-map es entry_frame in (
      omega (arith, lens, c.loop-done-test.true),
      step_to es (take c.loop-done.done es) at.0 c.loop-done.done at.1
          (either_log (log_name 1) (take c.loop-done.done es) (at.0 ∷ []) 4 _ _ refl
          (c.commit_one.ensures.any_moment told (take c.loop-done.done es) at.0 (c.loop-done.invariant.opened told es is each) at.3 at.2)),
    )

pub returns-in-Err-clause-any_moment : goal.returns-in-Err-clause-any_moment
returns-in-Err-clause-any_moment g c told es is each alone =
    let at = frame_at c.args.frames.now es c.loop-done.done c.index-frames-done.result c.index-frames-done.result is (omega (arith, c.loop-done-test.true)) each c.index-frames-done.is in
    more_time (HasFirst es) (4 * (c.loop-done.done + 1)) (4 * length c.args.frames.now) _ _ (omega (arith, c.loop-done-test.true))
    (committed_on es at.0 c.loop-done.done _ _ _ at.1 (c.loop-done.invariant.moments told es is each alone)
    (c.commit_one.ensures.any_moment told (take c.loop-done.done es) at.0 (c.loop-done.invariant.opened told es is each) at.3 at.2))

pub returns-in-Err-clause-others : goal.returns-in-Err-clause-others
returns-in-Err-clause-others g c told m other = c.commit_one.ensures.others told m other ∙ c.loop-done.invariant.others told m other

pub loop-done-init : goal.loop-done-init
loop-done-init g c = record {
  opened = λ told es is each. c.requires.begun told;
  moments = λ told es is each alone. at_once (HasFirst es) _ (open_first c.args.log.now _ es c.requires.named (c.requires.begun told) alone);
  others = λ told m other. refl;
  empty = c.requires.empty;
  named = c.requires.named;
  same = refl;
  later = omega arith;
}

pub returns-clause-any_moment : goal.returns-clause-any_moment
returns-clause-any_moment g c told es is each alone =
    more_time (HasFirst es) (4 * c.loop-done.done) (4 * length c.args.frames.now) _ _ (omega (arith, c.loop-done-test.false))
    (c.loop-done.invariant.moments told es is each alone)

pub loop-done-preserved : goal.loop-done-preserved
loop-done-preserved g c =
    let was = c.loop-done.invariant in
    record {
      opened = λ told es is each.
          let at = frame_at c.args.frames.now es c.loop-done.done c.index-frames-done.result c.index-frames-done.result is (omega (arith, c.loop-done-test.true)) each c.index-frames-done.is in
          subst (λ (xs : List Entry). IsOpen c.commit_one.new.log (g.D.Disk.view c.commit_one.new.disk) xs) (sym at.1)
          (c.in-Ok.ensures.committed told (take c.loop-done.done es) at.0 (was.opened told es is each) at.3 at.2);
      moments = λ told es is each alone.
          let at = frame_at c.args.frames.now es c.loop-done.done c.index-frames-done.result c.index-frames-done.result is (omega (arith, c.loop-done-test.true)) each c.index-frames-done.is in
          committed_on es at.0 c.loop-done.done _ _ _ at.1 (was.moments told es is each alone)
          (c.commit_one.ensures.any_moment told (take c.loop-done.done es) at.0 (was.opened told es is each) at.3 at.2);
      others = λ told m other. c.commit_one.ensures.others told m other ∙ was.others told m other;
      empty = c.in-Ok.ensures.empty;
      named = c.commit_one.ensures.name ∙ was.named;
      same = c.commit_one.ensures.name ∙ was.same;
      later = omega (arith, was.later, c.commit_one.ensures.later);
    }
