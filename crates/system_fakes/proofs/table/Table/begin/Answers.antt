use Rattle.std.proofs.Common.{ℕ, List, [], ◌∷◌, ◌++◌, map, Vec, refl, ◌∙◌, ap}
use Rattle.std.specs.declared.alloc.Global.{Global}
use Rattle.std.specs.FinMap.{insert}
use Rattle.system_fakes.specs.Table.{folder_in}
use Rattle.system_fakes.proofs.Names.{inserted, held_same, pushed}
use Rattle.system_fakes.proofs.table.Table.begin.Goals as goal

pub returns-clause-made : goal.returns-clause-made
returns-clause-made c =
    held_same _ _ refl (inserted c.args.self.now.parts c.insert.new.self c.args.name c.given-inode.result c.in_ok-insert.ensures.updates.1 c.in_ok-insert.ensures.updates.2 ∙ ap (insert (folder_in c.args.self.now.parts) c.args.name) c.given-inode.ensures)
    (ap (map (λ (w : Vec ℕ Global). w.items)) (c.push_file.ensures ∙ ap (λ (l : List (Vec ℕ Global)). l ++ c.new.result ∷ []) c.reserve.ensures.items) ∙ pushed c.args.self.now.files.items c.new.result c.new.ensures.items) refl
