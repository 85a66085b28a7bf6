-- Files in memory.
use Rattle.std.specs.Prelude.{ℕ, List, map, Vec}
use Rattle.std.specs.FinMap.{from_entries}
use Rattle.std.specs.declared.alloc.Global.{Global}
use Rattle.log_model.specs.declared.name.Name.{Name}
use Rattle.log_model.specs.Files.{Files}
use Rattle.disk_fakes.specs.declared.table.FileTable.{FileTable}

abbrev pub with_bytes : List (Name × Vec ℕ Global) → List (Name × List ℕ)
with_bytes entries = map (λ e. (e.0, e.1.items)) entries

abbrev pub files_in : FileTable → Files
files_in table = from_entries (with_bytes table.files.entries)
