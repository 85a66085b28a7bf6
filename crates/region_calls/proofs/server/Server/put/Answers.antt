use Rattle.std.proofs.Common.{◌≡◌, ℕ, suc, ◌+◌, sym, ap, ◌∙◌, subst, arith}
use Rattle.pass_calls.specs.log_service.Places.{ServiceId, IsSeatOf}
use Rattle.pass_calls.specs.region_lock.Answers.{is_sync, put_answer}
use Rattle.pass_calls.specs.region_lock.Puts.{IsFaultExact}
use Rattle.pass_calls.proofs.region_lock_laws.Lists.{length_set}
use Rattle.region_calls.proofs.Knowing.{below_more, hands_set, tally_other}
use Rattle.region_calls.proofs.Calling.{put_hand}
use Rattle.region_calls.proofs.Using.{put_is, used, puts_used, asks_used, watches_used, at_service}
use Rattle.region_calls.proofs.server.Server.put.Goals as goal

pub put_at-answer-requires-clause-caller : goal.put_at-answer-requires-clause-caller
put_at-answer-requires-clause-caller g c =
    let pass = c.args.pass.now in
    let p = c.index_mut.result.now in
    let k = c.place_of-place.result in
    let u = used pass.handler pass.calls c.args.self.now.regions c.args.region k pass.regions.items p c.requires.of.count c.place_of-place.ensures.place c.requires.region.0 c.place_of-place.ensures.few c.requires.of.hands c.index_mut.ensures.value in
    (sym u.hand.number, below_more (pass.calls + 1) c.args.call p.hand.record.list (omega (arith, c.requires.call)) u.hand.called)

pub returns-clause-puts : goal.returns-clause-puts
returns-clause-puts g c =
    let pass = c.args.pass.now in
    let p = c.index_mut.result.now in
    let done = c.put_at-answer in
    let k = c.place_of-place.result in
    let u = used pass.handler pass.calls c.args.self.now.regions c.args.region k pass.regions.items p c.requires.of.count c.place_of-place.ensures.place c.requires.region.0 c.place_of-place.ensures.few c.requires.of.hands c.index_mut.ensures.value in
    puts_used g.N.ServerNaming.name g.N.VersionsNaming.region_base c.args.time c.args.region k (is_sync c.args.durability) c.args.batch (record { handler = pass.handler; call = c.args.call }) (put_answer done.result)
    pass.handler pass.calls c.self.inside.service.regions pass.regions.items p done.new.at pass.seat done.new.seat u c.place_of-place.ensures.bases
    (c.requires.of.count ∙ sym (ap (λ (q : ServiceId). q.regions) c.self.view_is)) (put_is done.result) done.ensures.puts done.ensures.later c.requires.call

pub returns-clause-exact : goal.returns-clause-exact
returns-clause-exact g c =
    let pass = c.args.pass.now in
    let p = c.index_mut.result.now in
    let done = c.put_at-answer in
    let k = c.place_of-place.result in
    let u = used pass.handler pass.calls c.args.self.now.regions c.args.region k pass.regions.items p c.requires.of.count c.place_of-place.ensures.place c.requires.region.0 c.place_of-place.ensures.few c.requires.of.hands c.index_mut.ensures.value in
    subst (λ (r : ℕ). IsFaultExact (is_sync c.args.durability) r done.result pass.seat.device.knows done.new.seat.device.knows) (u.region ∙ u.next) done.ensures.exact

pub returns-clause-asked : goal.returns-clause-asked
returns-clause-asked g c =
    let pass = c.args.pass.now in
    let p = c.index_mut.result.now in
    let done = c.put_at-answer in
    let k = c.place_of-place.result in
    let u = used pass.handler pass.calls c.args.self.now.regions c.args.region k pass.regions.items p c.requires.of.count c.place_of-place.ensures.place c.requires.region.0 c.place_of-place.ensures.few c.requires.of.hands c.index_mut.ensures.value in
    asks_used pass.handler pass.calls c.args.region k (is_sync c.args.durability) done.result pass.regions.items p done.new.at done.new.seat.device.knows.broken u done.ensures.asked

pub returns-clause-watched : goal.returns-clause-watched
returns-clause-watched g c =
    let pass = c.args.pass.now in
    let p = c.index_mut.result.now in
    let done = c.put_at-answer in
    let k = c.place_of-place.result in
    let u = used pass.handler pass.calls c.args.self.now.regions c.args.region k pass.regions.items p c.requires.of.count c.place_of-place.ensures.place c.requires.region.0 c.place_of-place.ensures.few c.requires.of.hands c.index_mut.ensures.value in
    watches_used pass.handler pass.calls c.args.region k done.result pass.regions.items p done.new.at u done.ensures.watched

pub returns-clause-others : goal.returns-clause-others
returns-clause-others g c r other =
    let k = c.place_of-place.result in
    let place : suc k ≡ c.args.region = omega (arith, c.place_of-place.ensures.place, c.requires.region.0) in
    tally_other c.args.pass.now.regions.items k c.put_at-answer.new.at r (λ is. other (is ∙ place))

pub returns-clause-of : goal.returns-clause-of
returns-clause-of g c =
    let pass = c.args.pass.now in
    let p = c.index_mut.result.now in
    let done = c.put_at-answer in
    let k = c.place_of-place.result in
    let u = used pass.handler pass.calls c.args.self.now.regions c.args.region k pass.regions.items p c.requires.of.count c.place_of-place.ensures.place c.requires.region.0 c.place_of-place.ensures.few c.requires.of.hands c.index_mut.ensures.value in
    let hand = put_hand (g.N.VersionsNaming.region_base p.viewer.region) c.args.time (k + 1) c.self.inside.service.regions pass.handler pass.calls (is_sync c.args.durability) c.args.batch
    (record { handler = pass.handler; call = c.args.call }) (put_answer done.result) p done.new.at pass.seat done.new.seat _ _ u.hand done.ensures.same c.requires.call done.ensures.puts in
    record {
      seat = subst (λ (q : ServiceId). IsSeatOf q done.new.seat) c.self.view_is done.ensures.seat;
      count = length_set pass.regions.items k done.new.at ∙ c.requires.of.count;
      hands = hands_set pass.handler pass.calls c.args.call pass.regions.items k done.new.at c.requires.of.hands (omega (arith, c.requires.call)) hand;
    }

pub put_at-answer-requires-clause-service : goal.put_at-answer-requires-clause-service
put_at-answer-requires-clause-service g c =
    let pass = c.args.pass.now in
    let p = c.index_mut.result.now in
    let k = c.place_of-place.result in
    let u = used pass.handler pass.calls c.args.self.now.regions c.args.region k pass.regions.items p c.requires.of.count c.place_of-place.ensures.place c.requires.region.0 c.place_of-place.ensures.few c.requires.of.hands c.index_mut.ensures.value in
    let same = ap (λ (q : ServiceId). q.regions) c.self.view_is in (
      at_service g.N.ServiceNaming.ring c.self.inside.service c.args.self.now pass.handler pass.calls c.args.region k pass.regions.items p pass.seat u c.self.invariant.0.ring_is c.self.view_is c.place_of-place.ensures.few c.requires.of.seat,
      omega (arith, u.region, u.next, c.place_of-place.ensures.few, same, c.self.invariant.0.some.1),
    )
