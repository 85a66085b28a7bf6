use Rattle.std.proofs.Common.{◌+◌, length, ◌∙◌, arith}
use Rattle.pass_calls.specs.region_lock.Answers.{scan_answer}
use Rattle.pass_calls.proofs.region_lock_laws.Lists.{length_set}
use Rattle.region_calls.proofs.Knowing.{hands_set}
use Rattle.region_calls.proofs.Using.{scan_is, used, scans_used, view_hand}
use Rattle.region_calls.proofs.server.Server.scan.Goals as goal

pub returns-clause-scans : goal.returns-clause-scans
returns-clause-scans g c =
    let pass = c.args.pass.now in
    let p = c.index_mut.result.now in
    let done = c.scan_in in
    let k = c.place_of-place.result in
    let u = used pass.handler pass.calls c.args.self.now.regions c.args.region k pass.regions.items p c.requires.of.count c.place_of-place.ensures.place c.requires.region.0 c.place_of-place.ensures.few c.requires.of.hands c.index_mut.ensures.value in
    scans_used g.N.ServerNaming.name g.N.VersionsNaming.region_base c.args.region k c.args.from.now c.args.to.now (scan_answer done.result) pass.handler pass.calls pass.regions.items p done.new.at pass.seat u
    c.place_of-place.ensures.bases (scan_is done.result) (done.ensures.scans (length pass.regions.items) pass.seat)

pub returns-clause-of : goal.returns-clause-of
returns-clause-of g c =
    let pass = c.args.pass.now in
    let p = c.index_mut.result.now in
    let done = c.scan_in in
    let k = c.place_of-place.result in
    let u = used pass.handler pass.calls c.args.self.now.regions c.args.region k pass.regions.items p c.requires.of.count c.place_of-place.ensures.place c.requires.region.0 c.place_of-place.ensures.few c.requires.of.hands c.index_mut.ensures.value in
    record {
      seat = c.requires.of.seat;
      count = length_set pass.regions.items k done.new.at ∙ c.requires.of.count;
      hands = hands_set pass.handler pass.calls pass.calls pass.regions.items k done.new.at c.requires.of.hands (omega arith)
          (view_hand pass.handler pass.calls (k + 1) p done.new.at u.hand done.ensures.region done.ensures.hand.0);
    }
