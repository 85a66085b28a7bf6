use Rattle.std.proofs.Common.{ℕ, ◌+◌, [], length, refl, ap, ◌∙◌, arith}
use Rattle.hand_register.specs.Views.{HandView}
use Rattle.region_model.specs.Calls.{ScanMemory}
use Rattle.region_model.specs.Lines.{Line, last_in}
use Rattle.pass_calls.proofs.region_lock_laws.Lists.{length_set}
use Rattle.pass_calls.proofs.region_lock_laws.ScanLaws.{scan_none}
use Rattle.region_calls.proofs.Knowing.{hands_set}
use Rattle.region_calls.proofs.Using.{used, scans_used, point_used, view_hand}
use Rattle.region_calls.proofs.server.Server.read_point.Goals as goal

pub returns-clause-point : goal.returns-clause-point
returns-clause-point g c =
    let pass = c.args.pass.now in
    let p = c.index_mut.result.now in
    let done = c.point_in in
    let k = c.place_of-place.result in
    let u = used pass.handler pass.calls c.args.self.now.regions c.args.region k pass.regions.items p c.requires.of.count c.place_of-place.ensures.place c.requires.region.0 c.place_of-place.ensures.few c.requires.of.hands c.index_mut.ensures.value in
    done.ensures.point ∙ ap (λ (r : ℕ). last_in (g.N.VersionsNaming.region_base r) done.new.at.viewer.lines) done.ensures.region
    ∙ point_used g.N.ServerNaming.name g.N.VersionsNaming.region_base pass.handler pass.calls c.args.region k pass.regions.items p done.new.at pass.seat u c.place_of-place.ensures.bases done.ensures.region

pub returns-clause-later : goal.returns-clause-later
returns-clause-later g c =
    let pass = c.args.pass.now in
    let p = c.index_mut.result.now in
    let done = c.point_in in
    let k = c.place_of-place.result in
    let u = used pass.handler pass.calls c.args.self.now.regions c.args.region k pass.regions.items p c.requires.of.count c.place_of-place.ensures.place c.requires.region.0 c.place_of-place.ensures.few c.requires.of.hands c.index_mut.ensures.value in
    let scans = scan_none (length pass.regions.items) (g.N.VersionsNaming.region_base p.viewer.region) [] [] p.viewer.region done.new.at.viewer.region p.hand.record.list done.new.at.hand.record.list p.viewer.lines done.new.at.viewer.lines
    p.told.record.list done.new.at.told.record.list pass.seat done.ensures.region (ap (λ (h : HandView Line). h.record.list) done.ensures.hand.0) (ap (λ (h : HandView ℕ). h.record.list) done.ensures.hand.1) done.ensures.later in
    (scans_used g.N.ServerNaming.name g.N.VersionsNaming.region_base c.args.region k [] [] ScanMemory pass.handler pass.calls pass.regions.items p done.new.at pass.seat u c.place_of-place.ensures.bases refl scans).later

pub returns-clause-own : goal.returns-clause-own
returns-clause-own g c =
    let pass = c.args.pass.now in
    let p = c.index_mut.result.now in
    let done = c.point_in in
    let k = c.place_of-place.result in
    let u = used pass.handler pass.calls c.args.self.now.regions c.args.region k pass.regions.items p c.requires.of.count c.place_of-place.ensures.place c.requires.region.0 c.place_of-place.ensures.few c.requires.of.hands c.index_mut.ensures.value in
    let scans = scan_none (length pass.regions.items) (g.N.VersionsNaming.region_base p.viewer.region) [] [] p.viewer.region done.new.at.viewer.region p.hand.record.list done.new.at.hand.record.list p.viewer.lines done.new.at.viewer.lines
    p.told.record.list done.new.at.told.record.list pass.seat done.ensures.region (ap (λ (h : HandView Line). h.record.list) done.ensures.hand.0) (ap (λ (h : HandView ℕ). h.record.list) done.ensures.hand.1) done.ensures.later in
    (scans_used g.N.ServerNaming.name g.N.VersionsNaming.region_base c.args.region k [] [] ScanMemory pass.handler pass.calls pass.regions.items p done.new.at pass.seat u c.place_of-place.ensures.bases refl scans).own

pub returns-clause-of : goal.returns-clause-of
returns-clause-of g c =
    let pass = c.args.pass.now in
    let p = c.index_mut.result.now in
    let done = c.point_in in
    let k = c.place_of-place.result in
    let u = used pass.handler pass.calls c.args.self.now.regions c.args.region k pass.regions.items p c.requires.of.count c.place_of-place.ensures.place c.requires.region.0 c.place_of-place.ensures.few c.requires.of.hands c.index_mut.ensures.value in
    record {
      seat = c.requires.of.seat;
      count = length_set pass.regions.items k done.new.at ∙ c.requires.of.count;
      hands = hands_set pass.handler pass.calls pass.calls pass.regions.items k done.new.at c.requires.of.hands (omega arith)
          (view_hand pass.handler pass.calls (k + 1) p done.new.at u.hand done.ensures.region done.ensures.hand.0);
    }
