-- What a table holds.
use Rattle.std.specs.Prelude.{ℕ}
use Rattle.std.specs.FinMap.{from_entries}
use Rattle.std.specs.BTreeMap.{BTreeMap}
use Rattle.log_model.specs.declared.name.Name.{Name}
use Rattle.folder_system.specs.System.{Folder}
use Rattle.system_fakes.specs.declared.table.Table.{Table}
use Rattle.system_fakes.specs.Held.{Held}
use Rattle.system_fakes.specs.Texts.{texts_in}

abbrev pub folder_in : BTreeMap Name ℕ → Folder
folder_in names = from_entries names.entries

abbrev pub held_in : Table → Held
held_in t = record { folder = folder_in t.names; parts = folder_in t.parts; files = texts_in t.files.items; doubtful = t.doubts.items }
