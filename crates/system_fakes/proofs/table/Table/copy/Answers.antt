use Rattle.std.proofs.Common.{ℕ, List, ap}
use Rattle.std.specs.FinMap as map
use Rattle.std.specs.List.{each_same}
use Rattle.log_model.specs.declared.name.Name.{Name}
use Rattle.log_model.specs.Files.{name_cmp}
use Rattle.system_fakes.proofs.Names.{held_same, same_pairs, same_texts}
use Rattle.system_fakes.proofs.table.Table.copy.Goals as goal

pub returns : goal.returns
returns c =
    held_same _ _
    (ap (λ (es : List (Name × ℕ)). map.from_entries {R = name_cmp} es) (same_pairs c.args.self.now.names.entries c.in_ok-clone.field-0.entries c.in_ok-clone.ensures.cases))
    (ap (λ (es : List (Name × ℕ)). map.from_entries {R = name_cmp} es) (same_pairs c.args.self.now.parts.entries c.in_ok-clone-2.field-0.entries c.in_ok-clone-2.ensures.cases))
    (same_texts c.args.self.now.files.items c.in_ok-clone-3.field-0.items c.in_ok-clone-3.ensures.cases.0)
    (each_same c.args.self.now.doubts.items c.in_ok-clone-4.field-0.items c.in_ok-clone-4.ensures.cases.0)
