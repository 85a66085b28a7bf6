use Rattle.std.proofs.Common.{◌≡◌, ◌∙◌, ◌++◌, ◌∷◌, [], List, sym, ap, subst}
use Rattle.crossbeam_queue.specs.Passes.{view}
use Rattle.chronicle_model.specs.Chronicle.{Placed}
use Rattle.ship_queue.specs.declared.reading.Reading.{Reading}
use Rattle.ship_queue.specs.Halves.{HasShipped, all_given}
use Rattle.ship_queue.proofs.HalfLaws.{given_more}
use Rattle.ship_queue.proofs.shipping_half.ShippingHalf.ship_next.Goals as goal

pub returns-clause-ships : goal.returns-clause-ships
returns-clause-ships g c =
    let p = g.P.Peer in
    let popped : List Reading = (view c.args.self.now.consumer.pass).popped in
    let more : (view c.pop.new.pass.pass).popped ≡ popped ++ c.in-Some.reading ∷ [] = ap (λ v. v.popped) c.in-Some.ensures.popped.now in
    record {
      on = λ first was.
          subst (λ (l : List Placed). HasShipped p.has p.torn p.stays p.faults first c.ship_reading-self.new.peer c.ship_reading-self.new.count c.ship_reading-self.result l)
          (sym (ap all_given more ∙ given_more popped c.in-Some.reading)) (c.ship_reading-self.ensures.ships first (all_given popped) was);
    }
