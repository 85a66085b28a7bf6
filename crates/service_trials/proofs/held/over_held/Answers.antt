use Rattle.std.proofs.Common.{◌≡◌, ℕ, List, length, replicate, sym, ap, ◌∙◌, subst}
use Rattle.atomic_table.specs.Seated.{TableId}
use Rattle.append_ring.specs.Parts.{AreNew}
use Rattle.append_ring.proofs.Handing.{all_back}
use Rattle.append_ring.specs.declared.pass.RingKey.{RingKey}
use Rattle.log_service.specs.log_halves.declared.item.Item.{Item}
use Rattle.service_trials.proofs.CrewLaws.{seats_new}
use Rattle.service_trials.proofs.held.over_held.Goals as goal

pub hand_out-requires-clause-none : goal.hand_out-requires-clause-none
hand_out-requires-clause-none g c =
    let parts = c.requires.items.1.parts in
    let lasts = c.requires.lasts in
    let ok = c.in-Ok.ensures in
    record {
      passes = subst (λ (id : TableId). AreNew id (replicate 16 0) 0 c.in-Ok.field-0.passes) (sym ok.service.0) (subst (λ (l : List ℕ). AreNew g.N.ServiceNaming.ring l 0 c.in-Ok.field-0.passes) lasts (subst (λ ps. AreNew g.N.ServiceNaming.ring g.N.ServiceNaming.lasts 0 ps) (sym ok.passes) parts.new));
      all = ap length ok.passes ∙ parts.all ∙ ap length lasts;
      seats = seats_new c.in-Ok.field-0.service c.in-Ok.field-0.seats.consumers c.in-Ok.field-0.seats.devices _ _ ok.consumers.0 ok.consumers.1 ok.devices.0 ok.devices.1;
    }

pub close-closed-requires-clause-passes : goal.close-closed-requires-clause-passes
close-closed-requires-clause-passes g c =
    let back = c.take_back-told.ensures in
    (all_back (λ (p : RingKey Item). p.pass.table_id ≡ c.in-Ok.field-0.service.ring) 16 c.take_back-told.new.passes back.passes (sym back.all), back.all ∙ sym c.in-Ok.ensures.service.1)
