use Rattle.std.proofs.Common.{◌≡◌, ℕ, ◌<◌, List, [], ◌∷◌, ◌++◌, length, map, Some, None, slice_get, set, refl, sym, ap, ◌∙◌, subst, arith, length-append}
use Rattle.std.specs.Vec.Iter.{into_iter_items}
use Rattle.pass_calls.proofs.region_lock_laws.Lists.{length_set}
use Rattle.region_calls.specs.Passes.{knows}
use Rattle.region_calls.specs.declared.apart.Taken.{Taken}
use Rattle.region_calls.specs.declared.pass.Pass.{Pass}
use Rattle.region_calls.proofs.Loops.{one_more, all_given, one_over}
use Rattle.region_calls.proofs.TakenLaws.{out_get, taken_noted}
use Rattle.region_calls.proofs.apart.let_all_go.Goals as goal

pub letting-init : goal.letting-init
letting-init g c =
    let gives = c.into_iter-lock-iterator.ensures.into_iter_gives in
    record {
      known = refl;
      of = λ the a. a;
      taken = λ k low. absurd (omega (arith, low));
      out = λ j low high. out_get (length c.args.places.now) c.args.places.now j c.requires.places.0 high;
      all = c.requires.places.1;
      rest = gives.0;
      place = refl;
      len = omega (arith, gives.1, ap length gives.0);
      lasts = refl;
    }

pub take_region-one-requires-clause-place : goal.take_region-one-requires-clause-place
take_region-one-requires-clause-place g c =
    let inv = c.letting.invariant in
    let low = one_more c.letting.yielded (into_iter_items c.letting.lock-iterator) c.args.regions.items c.in-Some.lock (into_iter_items c.next.new.self) inv.rest c.in-Some.ensures.steps.0 in
    (omega (arith, inv.place, low, c.requires.places.2), subst (λ (i : ℕ). slice_get c.letting.places i ≡ Some None) (sym inv.place) (inv.out (length c.letting.yielded) (omega arith) (omega (arith, low, inv.all))))

pub take_region-one-requires-clause-passes : goal.take_region-one-requires-clause-passes
take_region-one-requires-clause-passes g c =
    let inv = c.letting.invariant in
    let low = one_more c.letting.yielded (into_iter_items c.letting.lock-iterator) c.args.regions.items c.in-Some.lock (into_iter_items c.next.new.self) inv.rest c.in-Some.ensures.steps.0 in
    (c.requires.passes.0, inv.of c.requires.passes.0 c.requires.passes.1, omega (arith, inv.place, low, c.requires.passes.2))

pub letting-preserved : goal.letting-preserved
letting-preserved g c =
    let inv = c.letting.invariant in
    let ys = c.letting.yielded in
    let one : Taken = c.take_region-one.result in
    let lasts : List ℕ = c.letting.lasts in
    let noted : List ℕ = c.note.new.lasts in
    let write : noted ≡ set lasts c.letting.place one.base.last = c.note.ensures ∙ ap (λ (x : ℕ). set lasts c.letting.place x) c.last-last.ensures in
    let was : List (Pass g.row.N.Denot g.N.LockNaming) = c.args.passes.now.items in
    let done = c.take_region-one.ensures in
    let bases = g.N.VersionsNaming.region_base in
    let handlers = g.N.LockNaming.handlers in
    let ring = g.N.ServiceNaming.ring in
    let steps = c.in-Some.ensures.steps.0 in
    let longer = length-append ys (c.in-Some.lock ∷ []) in
    let fewer = one_more c.letting.yielded (into_iter_items c.letting.lock-iterator) c.args.regions.items c.in-Some.lock (into_iter_items c.next.new.self) inv.rest c.in-Some.ensures.steps.0 in
    let room : length ys < 64 = omega (arith, fewer, c.requires.places.2) in
    record {
      known = done.knows ∙ inv.known;
      of = λ the a. done.of the (inv.of the a);
      taken = taken_noted bases handlers ring (map knows was) (map knows c.letting.passes.items) c.letting.places c.take_region-one.new.places one lasts noted c.letting.place (length ys) (length (ys ++ c.in-Some.lock ∷ [])) write inv.known inv.place longer (omega (arith, room, inv.lasts, c.requires.room)) done.others inv.taken done.taken;
      out = λ j low high. done.others j (λ e. omega (arith, e, low, longer, inv.place)) ∙ inv.out j (omega (arith, low, longer)) (omega (arith, high, done.count));
      all = done.count ∙ inv.all;
      rest = one_over ys (into_iter_items c.letting.lock-iterator) c.args.regions.items c.in-Some.lock (into_iter_items c.next.new.self) inv.rest steps;
      place = omega (arith, inv.place, longer);
      len = omega (arith, c.in-Some.ensures.steps.1, ap length steps, inv.len);
      lasts = ap length write ∙ length_set lasts c.letting.place one.base.last ∙ inv.lasts;
    }

pub returns-clause-taken : goal.returns-clause-taken
returns-clause-taken g c k low =
    let inv = c.letting.invariant in
    let all = all_given c.letting.yielded (into_iter_items c.letting.lock-iterator) c.args.regions.items _ inv.rest inv.len c.in-None.ensures.steps.0 in
    inv.taken k (omega (arith, low, all))

pub note-requires : goal.note-requires
note-requires g c =
    let inv = c.letting.invariant in
    let low = one_more c.letting.yielded (into_iter_items c.letting.lock-iterator) c.args.regions.items c.in-Some.lock (into_iter_items c.next.new.self) inv.rest c.in-Some.ensures.steps.0 in
    omega (arith, inv.place, inv.lasts, c.requires.room, low, c.requires.places.2)

pub returns-clause-of : goal.returns-clause-of
returns-clause-of g c the a = c.letting.invariant.of the a

pub overflow_add-place : goal.overflow_add-place
overflow_add-place g c =
    let inv = c.letting.invariant in
    let low = one_more c.letting.yielded (into_iter_items c.letting.lock-iterator) c.args.regions.items c.in-Some.lock (into_iter_items c.next.new.self) inv.rest c.in-Some.ensures.steps.0 in
    omega (arith, inv.place, low, c.requires.places.2)

pub returns-clause-count : goal.returns-clause-count
returns-clause-count g c = (c.letting.invariant.all, c.letting.invariant.lasts)
