use Rattle.std.proofs.Common.{ℕ, List, [], ◌∷◌, ◌++◌, refl, ◌∙◌, ap}
use Rattle.system_fakes.proofs.Names.{held_same}
use Rattle.system_fakes.proofs.table.Table.tear.Goals as goal

pub returns-clause-torn : goal.returns-clause-torn
returns-clause-torn c = held_same _ _ refl refl c.in_ok-write_file.ensures.written (c.push_inode.ensures ∙ ap (λ (l : List ℕ). l ++ c.args.inode ∷ []) c.reserve.ensures.items)
