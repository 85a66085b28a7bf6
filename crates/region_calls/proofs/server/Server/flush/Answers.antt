use Rattle.std.proofs.Common.{◌+◌, sym, ap, ◌∙◌, subst, arith, ℕ, List, Option, Contains}
use Rattle.std.specs.Option.{option_map}
use Rattle.pass_calls.specs.log_service.Places.{ServiceId, IsSeatOf}
use Rattle.pass_calls.specs.region_lock.Answers.{flush_answer}
use Rattle.pass_calls.specs.region_lock.Logged.{FlushesLog}
use Rattle.pass_calls.proofs.region_lock_laws.Lists.{length_set}
use Rattle.region_calls.proofs.Knowing.{hands_set}
use Rattle.region_calls.proofs.Using.{flush_is, used, flushes_used, flush_hand, at_service}
use Rattle.region_model.specs.Journal.{Caller}
use Rattle.region_calls.proofs.server.Server.flush.Goals as goal

pub returns-clause-flushes : goal.returns-clause-flushes
returns-clause-flushes g c =
    let pass = c.args.pass.now in
    let p = c.index_mut.result.now in
    let done = c.flush_in-answer in
    let k = c.place_of-place.result in
    let u = used pass.handler pass.calls c.args.self.now.regions c.args.region k pass.regions.items p c.requires.of.count c.place_of-place.ensures.place c.requires.region.0 c.place_of-place.ensures.few c.requires.of.hands c.index_mut.ensures.value in
    flushes_used g.N.ServerNaming.name g.N.VersionsNaming.region_base g.N.LockNaming.flushes c.args.region k (option_map (λ (f : _). f.now) c.args.family) (record { handler = pass.handler; call = c.args.call }) (flush_answer done.result)
    pass.handler pass.calls c.self.inside.service.regions pass.regions.items p done.new.at pass.seat done.new.seat u c.place_of-place.ensures.bases c.place_of-place.ensures.flushes
    (c.requires.of.count ∙ sym (ap (λ (q : ServiceId). q.regions) c.self.view_is)) (flush_is done.result) done.ensures.flushes done.ensures.later c.requires.call

pub returns-clause-of : goal.returns-clause-of
returns-clause-of g c =
    let pass = c.args.pass.now in
    let p = c.index_mut.result.now in
    let done = c.flush_in-answer in
    let k = c.place_of-place.result in
    let u = used pass.handler pass.calls c.args.self.now.regions c.args.region k pass.regions.items p c.requires.of.count c.place_of-place.ensures.place c.requires.region.0 c.place_of-place.ensures.few c.requires.of.hands c.index_mut.ensures.value in
    let hand = flush_hand (g.N.VersionsNaming.region_base p.viewer.region) (g.N.LockNaming.flushes p.viewer.region) (k + 1) c.self.inside.service.regions pass.handler pass.calls
    (option_map (λ (f : _). f.now) c.args.family) (record { handler = pass.handler; call = c.args.call }) (flush_answer done.result) p done.new.at pass.seat done.new.seat _ _ u.hand done.ensures.same c.requires.call done.ensures.flushes in
    record {
      seat = subst (λ (q : ServiceId). IsSeatOf q done.new.seat) c.self.view_is done.ensures.seat;
      count = length_set pass.regions.items k done.new.at ∙ c.requires.of.count;
      hands = hands_set pass.handler pass.calls c.args.call pass.regions.items k done.new.at c.requires.of.hands (omega (arith, c.requires.call)) hand;
    }

pub flush_in-answer-requires-clause-caller : goal.flush_in-answer-requires-clause-caller
flush_in-answer-requires-clause-caller g c =
    let pass = c.args.pass.now in
    let p = c.index_mut.result.now in
    let k = c.place_of-place.result in
    let u = used pass.handler pass.calls c.args.self.now.regions c.args.region k pass.regions.items p c.requires.of.count c.place_of-place.ensures.place c.requires.region.0 c.place_of-place.ensures.few c.requires.of.hands c.index_mut.ensures.value in
    let call : Caller = record { handler = pass.handler; call = c.args.call } in
    let listed = subst (λ (f : ℕ → List Caller). Contains (f c.args.region) call) c.place_of-place.ensures.flushes c.requires.listed in
    (sym u.hand.number, omega (arith, c.requires.call), subst (λ (r : ℕ). Contains (g.N.LockNaming.flushes r) call) (sym (u.region ∙ u.next)) listed)

pub flush_in-answer-requires-clause-service : goal.flush_in-answer-requires-clause-service
flush_in-answer-requires-clause-service g c =
    let pass = c.args.pass.now in
    let p = c.index_mut.result.now in
    let k = c.place_of-place.result in
    let u = used pass.handler pass.calls c.args.self.now.regions c.args.region k pass.regions.items p c.requires.of.count c.place_of-place.ensures.place c.requires.region.0 c.place_of-place.ensures.few c.requires.of.hands c.index_mut.ensures.value in
    at_service g.N.ServiceNaming.ring c.self.inside.service c.args.self.now pass.handler pass.calls c.args.region k pass.regions.items p pass.seat u c.self.invariant.0.ring_is c.self.view_is c.place_of-place.ensures.few c.requires.of.seat

pub flush_in-answer-requires-clause-free : goal.flush_in-answer-requires-clause-free
flush_in-answer-requires-clause-free g c =
    let pass = c.args.pass.now in
    let p = c.index_mut.result.now in
    let k = c.place_of-place.result in
    let u = used pass.handler pass.calls c.args.self.now.regions c.args.region k pass.regions.items p c.requires.of.count c.place_of-place.ensures.place c.requires.region.0 c.place_of-place.ensures.few c.requires.of.hands c.index_mut.ensures.value in
    u.hand.mark

pub returns-clause-family : goal.returns-clause-family
returns-clause-family g c =
    let pass = c.args.pass.now in
    let p = c.index_mut.result.now in
    let done = c.flush_in-answer in
    let k = c.place_of-place.result in
    let family : Option (List ℕ) = option_map (λ (f : _). f.now) c.args.family in
    let u = used pass.handler pass.calls c.args.self.now.regions c.args.region k pass.regions.items p c.requires.of.count c.place_of-place.ensures.place c.requires.region.0 c.place_of-place.ensures.few c.requires.of.hands c.index_mut.ensures.value in
    subst (λ (q : ServiceId). FlushesLog g.D.Disk g.N.ServiceNaming q.regions c.args.region family done.new.seat done.result) c.self.view_is
    (subst (λ (r : ℕ). FlushesLog g.D.Disk g.N.ServiceNaming c.self.inside.service.regions r family done.new.seat done.result) (u.region ∙ u.next) done.ensures.family)
