use Rattle.log_model.proofs.FrameLaws.{Told}
use Rattle.entry_frame.proofs.reading.cells_in.Given as goal

-- as many cells as were read stand in front of the rest, and it is told whether one has tags
abbrev pub invariant-loop : goal.invariant-loop
invariant-loop l = Told l.form l.bytes l.counter l.rest l.untagged
