use Rattle.std.proofs.Common.{◌≡◌, ℕ, List, [], ◌∷◌, length, map, Some, None, slice_get, refl, sym, ap, ◌∙◌, subst, arith, length-append}
use Rattle.std.specs.Vec.Iter.{into_iter_items}
use Rattle.region_calls.specs.Passes.{knows}
use Rattle.region_calls.specs.declared.apart.Taken.{Taken}
use Rattle.region_calls.specs.declared.pass.Pass.{Pass}
use Rattle.region_calls.proofs.Loops.{one_more, all_given, one_over}
use Rattle.region_calls.proofs.BackLaws.{get_low}
use Rattle.region_calls.proofs.TakenLaws.{out_get, taken_more}
use Rattle.region_calls.proofs.apart.take_all.Goals as goal

pub taking-init : goal.taking-init
taking-init g c =
    let gives = c.into_iter-lock-iterator.ensures.into_iter_gives in
    record {
      known = refl;
      of = λ the a. a;
      taken = λ k t at. let none = get_low c.args.room.items k t at in absurd (omega (arith, none, ap length c.requires.room.0));
      out = λ j low high. out_get (length c.args.places.now) c.args.places.now j c.requires.places.0 high;
      all = c.requires.places.1;
      rest = gives.0;
      place = refl;
      count = ap length c.requires.room.0;
      len = omega (arith, gives.1, ap length gives.0);
      room = c.requires.room.1;
    }

pub take_region-one-requires-clause-place : goal.take_region-one-requires-clause-place
take_region-one-requires-clause-place g c =
    let inv = c.taking.invariant in
    let low = one_more c.taking.yielded (into_iter_items c.taking.lock-iterator) c.args.regions.items c.in-Some.lock (into_iter_items c.next.new.self) inv.rest c.in-Some.ensures.steps.0 in
    (omega (arith, inv.place, low, c.requires.places.2), subst (λ (i : ℕ). slice_get c.taking.places i ≡ Some None) (sym inv.place) (inv.out (length c.taking.yielded) (omega arith) (omega (arith, low, inv.all))))

pub take_region-one-requires-clause-passes : goal.take_region-one-requires-clause-passes
take_region-one-requires-clause-passes g c =
    let inv = c.taking.invariant in
    let low = one_more c.taking.yielded (into_iter_items c.taking.lock-iterator) c.args.regions.items c.in-Some.lock (into_iter_items c.next.new.self) inv.rest c.in-Some.ensures.steps.0 in
    (c.requires.passes.0, inv.of c.requires.passes.0 c.requires.passes.1, omega (arith, inv.place, low, c.requires.passes.2))

pub taking-preserved : goal.taking-preserved
taking-preserved g c =
    let inv = c.taking.invariant in
    let ys = c.taking.yielded in
    let one : Taken = c.take_region-one.result in
    let old : List Taken = c.taking.taken.items in
    let was : List (Pass g.row.N.Denot g.N.LockNaming) = c.args.passes.now.items in
    let done = c.take_region-one.ensures in
    let bases = g.N.VersionsNaming.region_base in
    let handlers = g.N.LockNaming.handlers in
    let ring = g.N.ServiceNaming.ring in
    let steps = c.in-Some.ensures.steps.0 in
    let longer = length-append ys (c.in-Some.lock ∷ []) in
    record {
      known = done.knows ∙ inv.known;
      of = λ the a. done.of the (inv.of the a);
      taken = taken_more bases handlers ring (map knows was) (map knows c.taking.passes.items) c.taking.places c.take_region-one.new.places old c.push_reserved.new.self.items one c.taking.place (length ys) c.push_reserved.ensures.items inv.known inv.count inv.place done.others inv.taken done.taken;
      out = λ j low high. done.others j (λ e. omega (arith, e, low, longer, inv.place)) ∙ inv.out j (omega (arith, low, longer)) (omega (arith, high, done.count));
      all = done.count ∙ inv.all;
      rest = one_over ys (into_iter_items c.taking.lock-iterator) c.args.regions.items c.in-Some.lock (into_iter_items c.next.new.self) inv.rest steps;
      place = omega (arith, inv.place, longer);
      count = ap length c.push_reserved.ensures.items ∙ omega (arith, length-append old (one ∷ []), longer, inv.count);
      len = omega (arith, c.in-Some.ensures.steps.1, ap length steps, inv.len);
      room = omega (arith, inv.room, c.push_reserved.ensures.capacity);
    }

pub returns-clause-taken : goal.returns-clause-taken
returns-clause-taken g c k t at = c.taking.invariant.taken k t at

pub returns-clause-of : goal.returns-clause-of
returns-clause-of g c the a = c.taking.invariant.of the a

pub overflow_add-place : goal.overflow_add-place
overflow_add-place g c =
    let inv = c.taking.invariant in
    let low = one_more c.taking.yielded (into_iter_items c.taking.lock-iterator) c.args.regions.items c.in-Some.lock (into_iter_items c.next.new.self) inv.rest c.in-Some.ensures.steps.0 in
    omega (arith, inv.place, low, c.requires.places.2)

pub push_reserved-requires : goal.push_reserved-requires
push_reserved-requires g c =
    let inv = c.taking.invariant in
    let low = one_more c.taking.yielded (into_iter_items c.taking.lock-iterator) c.args.regions.items c.in-Some.lock (into_iter_items c.next.new.self) inv.rest c.in-Some.ensures.steps.0 in
    omega (arith, inv.count, inv.room, low)

pub returns-clause-count : goal.returns-clause-count
returns-clause-count g c =
    let inv = c.taking.invariant in
    let all = all_given c.taking.yielded (into_iter_items c.taking.lock-iterator) c.args.regions.items _ inv.rest inv.len c.in-None.ensures.steps.0 in
    (inv.count ∙ all, inv.all)
