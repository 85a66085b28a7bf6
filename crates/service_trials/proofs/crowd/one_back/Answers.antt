use Rattle.std.proofs.Common.{◌≡◌, ℕ, suc, ◌+◌, ◌-◌, length, set, Some, None, sym, ap, ◌∙◌, subst, arith, length-set}
use Rattle.std.specs.Prelude.{slice_get}
use Rattle.append_ring.specs.declared.pass.RingKey.{RingKey}
use Rattle.append_ring.specs.Parts.{ArePlacesBack}
use Rattle.append_ring.proofs.Handing.{back_next}
use Rattle.log_service.specs.log_halves.declared.item.Item.{Item}
use Rattle.service_trials.proofs.CrewLaws.{seat_back}
use Rattle.service_trials.proofs.crowd.one_back.Goals as goal

pub put_back-requires : goal.put_back-requires
put_back-requires g c =
    let back = c.requires.back in
    let r = back_next (λ (p : RingKey Item). p.pass.table_id ≡ c.args.service.now.ring) c.args.before c.args.passes.now c.args.member.pass back.passes (omega (arith, back.all, c.requires.before)) c.requires.of.ring in
    let at : c.args.before ≡ c.args.member.pass.region - 1 = omega (arith, c.sure_same.ensures) in
    subst (λ (i : ℕ). slice_get c.args.passes.now i ≡ Some None) at r.0

pub returns : goal.returns
returns g c =
    let place = c.args.service.now in
    let n : ℕ = c.args.before in
    let back = c.requires.back in
    let is_so : RingKey Item → Type 0 = (λ p. p.pass.table_id ≡ place.ring) in
    let r = back_next is_so n c.args.passes.now c.args.member.pass back.passes (omega (arith, back.all, c.requires.before)) c.requires.of.ring in
    let at : n ≡ c.args.member.pass.region - 1 = omega (arith, c.sure_same.ensures) in
    let set_is = subst (λ (i : ℕ). c.put_back.new.self ≡ set c.args.passes.now i (Some c.args.member.pass)) (sym at) c.put_back.ensures in
    let next : suc n ≡ n + 1 = omega arith in
    record {
      passes = subst (λ (m : ℕ). ArePlacesBack is_so m c.put_back.new.self) next (subst (λ l. ArePlacesBack is_so (suc n) l) (sym set_is) r.1);
      all = ap length set_is ∙ length-set c.args.passes.now n (Some c.args.member.pass) ∙ back.all;
      seats = seat_back place n c.args.seats.now.consumers c.put_back-2.new.self.consumers c.args.seats.now.devices c.put_back-2.new.self.devices c.args.member.seat c.requires.before back.seats c.requires.of.seat c.put_back-2.ensures.back c.put_back-2.ensures.rooms;
    }
