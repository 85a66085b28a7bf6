use Rattle.log_trucks.specs.Links.{linked}
use Rattle.log_trucks.proofs.TakenCells.{AreTaken}
use Rattle.log_trucks.proofs.chain.Chain.cells.Given as goal

-- the cells of the trucks in front of the link are taken
abbrev pub invariant-loop-link : goal.invariant-loop-link
invariant-loop-link l = AreTaken l.accounting l.region l.family l.self l.cells (linked l.link)
