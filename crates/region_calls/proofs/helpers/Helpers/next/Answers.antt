use Rattle.std.proofs.Common.{List, sym, subst}
use Rattle.pass_calls.specs.log_service.declared.seats.LogSeat.{LogSeat}
use Rattle.region_calls.specs.Deals.{AreSeatsOf}
use Rattle.region_calls.proofs.Seated.{seat_popped}
use Rattle.region_calls.proofs.helpers.Helpers.next.Goals as goal

pub returns-clause-of : goal.returns-clause-of
returns-clause-of c place of =
    seat_popped place c.self.inside.seats.items c.pop.new.self.items c.pop.result c.pop.ensures.items (subst (λ (l : List LogSeat). AreSeatsOf place l) (sym c.self.view_is) of)
