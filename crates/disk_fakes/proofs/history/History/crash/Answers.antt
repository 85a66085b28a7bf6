use Rattle.std.proofs.Common.{◌≡◌, ◌≤◌, List, length, take, sym, ap, subst, arith, length-take}
use Rattle.std.proofs.lemmas.Result.{IfOk-weaker}
use Rattle.log_model.specs.Files.{Files}
use Rattle.disk_fakes.specs.declared.op.Op.{Op}
use Rattle.disk_fakes.specs.declared.history.History.{History}
use Rattle.disk_fakes.specs.Table.{files_in}
use Rattle.disk_fakes.specs.History.{after, quiet, MeetAll, after-clock}
use Rattle.disk_fakes.specs.Views.{history_view}
use Rattle.disk_images.specs.Crash.{IsImageNow}
use Rattle.disk_fakes.proofs.Played.{met_take, at_moment}
use Rattle.disk_fakes.proofs.history.History.crash.Goals as goal

pub slice_bounds-played-end : goal.slice_bounds-played-end
slice_bounds-played-end c = omega (arith, c.requires, c.deref.ensures.len, ap length c.deref.ensures.value, length-take c.args.moment c.deref.result.now, after-clock (quiet (files_in c.args.self.now.first)) c.args.self.now.ops.items)

pub played-requires-clause-met : goal.played-requires-clause-met
played-requires-clause-met c =
    subst (λ (l : List Op). MeetAll (quiet (files_in c.args.self.now.first)) (take c.args.moment l)) (sym c.deref.ensures.value)
    (met_take (quiet (files_in c.args.self.now.first)) c.args.moment c.args.self.now.ops.items c.args.self.now.met)

pub returns-clause-image : goal.returns-clause-image
returns-clause-image c =
    let first = files_in c.args.self.now.first in
    let ops = c.args.self.now.ops.items in
    let le : c.args.moment ≤ length ops = omega (arith, c.requires, after-clock (quiet first) ops) in
    let J = files_in c.in_ok-image.image in
    let now = subst (λ (l : List Op). IsImageNow (after (quiet first) (take c.args.moment l)) J) c.deref.ensures.value c.in_ok-image.ensures.image in
    let there = at_moment first ops c.args.moment J le now in
    IfOk-weaker c.quiet.result (λ h. (history_view h).files ≡ J) (λ h. (history_view c.args.self.now).image c.args.moment (history_view h).files) (λ (h : History). λ (same : (history_view h).files ≡ J). subst (λ (f : Files). (history_view c.args.self.now).image c.args.moment f) (sym same) there) c.quiet.ensures.view
