-- A position as the code has it.
use Rattle.chronicle_model.specs.Chronicle.{Position as ThePosition}
use Rattle.log_tail.specs.declared.position.Position.{Position}

abbrev pub position_of : Position → ThePosition
position_of p = record { file = p.file; entries = p.entries }
