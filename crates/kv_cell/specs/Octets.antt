-- Bytes in their place.
use Rattle.std.specs.Prelude.{ℕ, List}
use Rattle.kv_cell.specs.declared.octets.Place.{Place}
use Rattle.kv_cell.specs.declared.octets.Place.TheVariants as places

abbrev pub bytes_at : Place → List ℕ
bytes_at (places.Here bytes) = bytes
bytes_at (places.Block bytes) = bytes.items
