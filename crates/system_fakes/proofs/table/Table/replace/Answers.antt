use Rattle.std.proofs.Common.{ℕ, set, Vec, refl, ◌∙◌, ap}
use Rattle.std.proofs.lemmas.List.{map-set}
use Rattle.std.specs.declared.alloc.Global.{Global}
use Rattle.system_fakes.specs.Texts.{texts_in}
use Rattle.system_fakes.proofs.Names.{held_same}
use Rattle.system_fakes.proofs.table.Table.replace.Goals as goal

pub returns-then-has : goal.returns-then-has
returns-then-has c =
    held_same _ _ refl refl
    (map-set (λ (w : Vec ℕ Global). w.items) c.args.self.now.files.items c.args.inode c.in_ok-copy.copy
    ∙ ap (set (texts_in c.args.self.now.files.items) c.args.inode) (c.in_ok-copy.ensures.whole refl)) refl
