-- What a cut's store has in it.
use Rattle.std.specs.Prelude.{◌≡◌, ◌↔◌, ℕ, List, Some}
use Rattle.std.specs.FinMap.{get, empty}
use Rattle.cell_model.specs.Order.{VersionKey, Payload, NumberedCell}
use Rattle.cell_model.specs.Merge.{put_numbered}
use Rattle.log_model.specs.declared.name.Name.{Name}
use Rattle.log_model.specs.Recovered.{Holds}
use Rattle.flush_snapshot.specs.Cut.{cut_store}

-- it holds what the cut's cells put, one after the other
abbrev pub CutHoldsItsContent : Type 0
CutHoldsItsContent = (name : Name) (family : List ℕ) (from to : ℕ) (cut : List NumberedCell) (v : VersionKey) (p : Payload)
    → Holds (cut_store name family from to cut) v p ↔ (get (put_numbered empty cut) v ≡ Some p)
