use Rattle.ship_command.proofs.Cuts.{cut_as, cut_of}
use Rattle.ship_command.proofs.held.send.Goals as goal

pub returns-in_err-write_all-clause-cut : goal.returns-in_err-write_all-clause-cut
returns-in_err-write_all-clause-cut g c told err = cut_as c.as_slice.ensures.value (cut_of (c.in_err-write_all.ensures.prints told))
