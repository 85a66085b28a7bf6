use Rattle.std.proofs.Common.{◌≡◌, length}
use Rattle.store_file.specs.Reading.{StandsUpTo}
use Rattle.store_file.proofs.reading.read_cells.Given as goal

-- as many cells stand as turns were taken
abbrev pub invariant-loop : goal.invariant-loop
invariant-loop l = StandsUpTo l.fields.form l.bytes l.cells.items l.at × (length l.cells.items ≡ l.counter)
