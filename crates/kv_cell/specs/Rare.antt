-- Bytes in their box.
use Rattle.std.specs.Prelude.{ℕ, List, [], Option, Some, None}
use Rattle.std.specs.Global.{Box}

abbrev pub bytes_in : Option (Box (List ℕ)) → List ℕ
bytes_in None = []
bytes_in (Some bytes) = bytes.value
