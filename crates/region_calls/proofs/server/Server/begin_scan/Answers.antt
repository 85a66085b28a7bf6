use Rattle.std.proofs.Common.{ℕ, ◌+◌, length, set, ◌∙◌, subst, arith}
use Rattle.region_model.specs.Lines.{last_in}
use Rattle.pass_calls.proofs.region_lock_laws.Lists.{length_set}
use Rattle.region_model.specs.Calls.{Raw}
use Rattle.server_model.specs.Steps.{Scans}
use Rattle.region_calls.specs.Answers.{begun_answer}
use Rattle.region_calls.specs.Passes.{pass_of}
use Rattle.region_calls.proofs.Knowing.{hands_set}
use Rattle.region_calls.proofs.Using.{begun_is, used, scans_used, point_used, view_hand}
use Rattle.region_calls.proofs.server.Server.begin_scan.Goals as goal

pub returns-clause-scans : goal.returns-clause-scans
returns-clause-scans g c =
    let pass = c.args.pass.now in
    let p = c.index_mut.result.now in
    let done = c.scanner_in in
    let r = c.args.region in
    let ps = pass.regions.items in
    let k = c.place_of-place.result in
    let u = used pass.handler pass.calls c.args.self.now.regions r k ps p c.requires.of.count c.place_of-place.ensures.place c.requires.region.0 c.place_of-place.ensures.few c.requires.of.hands c.index_mut.ensures.value in
    let named = c.place_of-place.ensures.bases in
    let point = last_in (g.N.VersionsNaming.region_base p.viewer.region) done.new.at.viewer.lines in
    let scans = scans_used g.N.ServerNaming.name g.N.VersionsNaming.region_base r k c.args.from.now c.args.to.now (begun_answer point done.result) pass.handler pass.calls ps p done.new.at pass.seat u
    named (begun_is point done.result) (done.ensures.scans (length ps) pass.seat) in
    subst (λ (n : ℕ). Scans g.N.ServerNaming.name Raw r c.args.from.now c.args.to.now (begun_answer n done.result) (pass_of pass.handler pass.calls ps pass.seat) (pass_of pass.handler pass.calls (set ps k done.new.at) pass.seat))
    (point_used g.N.ServerNaming.name g.N.VersionsNaming.region_base pass.handler pass.calls r k ps p done.new.at pass.seat u named done.ensures.region) scans

pub returns-clause-of : goal.returns-clause-of
returns-clause-of g c =
    let pass = c.args.pass.now in
    let p = c.index_mut.result.now in
    let done = c.scanner_in in
    let k = c.place_of-place.result in
    let u = used pass.handler pass.calls c.args.self.now.regions c.args.region k pass.regions.items p c.requires.of.count c.place_of-place.ensures.place c.requires.region.0 c.place_of-place.ensures.few c.requires.of.hands c.index_mut.ensures.value in
    record {
      seat = c.requires.of.seat;
      count = length_set pass.regions.items k done.new.at ∙ c.requires.of.count;
      hands = hands_set pass.handler pass.calls pass.calls pass.regions.items k done.new.at c.requires.of.hands (omega arith)
          (view_hand pass.handler pass.calls (k + 1) p done.new.at u.hand done.ensures.region done.ensures.hand.0);
    }
