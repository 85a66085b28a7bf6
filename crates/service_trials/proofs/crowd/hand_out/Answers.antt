use Rattle.std.proofs.Common.{◌≡◌, ℕ, suc, ◌+◌, ◌-◌, List, [], ◌∷◌, length, replicate, All, sym, ap, ◌∙◌, subst, arith, length-append}
use Rattle.std.proofs.lemmas.List.Elements.{All-push}
use Rattle.std.proofs.lemmas.Option.{same_Some}
use Rattle.append_ring.specs.declared.pass.RingKey.{RingKey}
use Rattle.append_ring.specs.Parts.{IsNew, AreNewAfter}
use Rattle.append_ring.specs.Rules.{base_of, end_of}
use Rattle.append_ring.proofs.Handing.{next_new}
use Rattle.log_service.specs.log_halves.declared.item.Item.{Item}
use Rattle.log_service.specs.Items.{number_of}
use Rattle.service_trials.specs.Crew.{IsOf}
use Rattle.service_trials.specs.declared.member.Member.{Member}
use Rattle.service_trials.proofs.CrewLaws.{seat_out, zeros}
use Rattle.service_trials.proofs.crowd.hand_out.Goals as goal

pub unreachable-requires : goal.unreachable-requires
unreachable-requires g c =
    let out = c.loop-given.invariant.out in
    let r = next_new c.args.service.now.ring (replicate 16 0) 0 c.loop-given.given c.loop-given.passes out.passes (omega (arith, out.all, c.loop-given-test.true)) in
    absurd (cc (sym c.in_default.is ∙ c.next.ensures.given ∙ r.1))

pub loop-given-preserved : goal.loop-given-preserved
loop-given-preserved g c =
    let place = c.args.service.now in
    let n : ℕ = c.loop-given.given in
    let inv = c.loop-given.invariant in
    let low = c.loop-given-test.true in
    let lasts : List ℕ = replicate 16 0 in
    let r = next_new place.ring lasts 0 n c.loop-given.passes inv.out.passes (omega (arith, inv.out.all, low)) in
    let pass : RingKey Item = c.in-Some.pass in
    let same : r.0 ≡ pass = same_Some r.0 pass (sym r.1 ∙ sym c.next.ensures.given ∙ c.in-Some.is) in
    let number : 0 + n + 1 ≡ n + 1 = omega arith in
    let new = subst (λ (p : RingKey Item). IsNew place.ring lasts (n + 1) p) same (subst (λ (m : ℕ). IsNew place.ring lasts m r.0) number r.2) in
    let at : n + 1 - 1 ≡ n = omega arith in
    let none = (λ i. end_of number_of (base_of (new.2 i).lasts (new.1 i)) (new.2 i).pushed) ∙ zeros 16 (n + 1 - 1) in
    let seat = seat_out place n c.loop-given.seats.consumers c.next-in-loop-given.new.self.consumers c.loop-given.seats.devices c.next-in-loop-given.new.self.devices c.in-Some-next.seat inv.out.seats c.in-Some-next.ensures in
    let member : Member = record { pass = pass; seat = c.in-Some-next.seat; pushed = 0; durable = 0; full = 0; right = 0 } in
    let ready : IsOf place member = record {
      ring = new.0;
      region = (omega (arith, new.1), omega (arith, new.1, low, c.requires.regions), omega (arith, new.1, low));
      last = none;
      seat = seat.0;
    } in
    let left = c.next.ensures.left in
    let items = c.push_reserved.ensures.items in
    let next : suc n ≡ n + 1 = omega arith in
    record {
      out = record {
        passes = subst (λ (m : ℕ). AreNewAfter place.ring lasts 0 m c.next.new.self) next (subst (λ l. AreNewAfter place.ring lasts 0 (suc n) l) (sym left) r.3);
        all = ap length left ∙ r.4 ∙ inv.out.all;
        seats = seat.1;
      };
      len = omega (arith, ap length items, length-append c.loop-given.crew.items (member ∷ []), inv.len);
      room = omega (arith, inv.room, c.push_reserved.ensures.capacity);
      ready = subst (λ (l : List Member). All (IsOf place) l) (sym items) (All-push (IsOf place) c.loop-given.crew.items member inv.ready ready);
    }
