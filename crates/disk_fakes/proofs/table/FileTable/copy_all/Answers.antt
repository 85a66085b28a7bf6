use Rattle.std.proofs.Common.{ℕ, List, ap}
use Rattle.std.specs.FinMap as map
use Rattle.log_model.specs.declared.name.Name.{Name}
use Rattle.log_model.specs.Files.{name_cmp}
use Rattle.disk_fakes.proofs.Names.{same_bytes}
use Rattle.disk_fakes.proofs.table.FileTable.copy_all.Goals as goal

pub returns : goal.returns
returns c = ap (λ (es : List (Name × List ℕ)). map.from_entries {R = name_cmp} es) (same_bytes c.args.self.now.files.entries c.in_ok-clone.field-0.entries c.in_ok-clone.ensures.cases)
