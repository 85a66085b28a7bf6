use Rattle.log_berth.proofs.Steps.{begins}
use Rattle.log_berth.proofs.berth.Berth.new.Goals as goal

pub new-requires : goal.new-requires
new-requires g c = rw (c.in-Ok-one_slot.ensures, c.as_slice.ensures.value) (begins g.W.Ware.numbers g.W.Ware.is_broken record { regions = c.args.regions; seats = c.args.seats; words = c.in-Ok.words } c.args.ware c.in-Ok.ensures.0 c.in-Ok.ensures.1 c.in-Ok.ensures.2 c.in-Ok.ensures.3 c.requires.whole)
