use Rattle.std.proofs.Common.{List, sym, subst}
use Rattle.pass_calls.specs.log_service.declared.seats.LogSeat.{LogSeat}
use Rattle.region_calls.specs.Deals.{AreSeatsOf}
use Rattle.region_calls.proofs.Seated.{seat_more}
use Rattle.region_calls.proofs.helpers.Helpers.put_back.Goals as goal

pub returns-clause-of : goal.returns-clause-of
returns-clause-of c place of one = subst (λ (l : List LogSeat). AreSeatsOf place l) (sym c.push_reserved.ensures.items) (seat_more place c.self.inside.seats.items c.args.seat (subst (λ (l : List LogSeat). AreSeatsOf place l) (sym c.self.view_is) of) one)
