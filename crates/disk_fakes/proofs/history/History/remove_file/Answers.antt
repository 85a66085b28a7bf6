use Rattle.std.proofs.Common.{◌≡◌, ◌∙◌, ap, [], ◌∷◌, ◌++◌, List}
use Rattle.disk_fakes.specs.declared.op.Op.{Op}
use Rattle.disk_fakes.specs.declared.op.Op.TheVariants.{Remove}
use Rattle.disk_fakes.specs.Table.{files_in}
use Rattle.disk_fakes.proofs.Steps.{tied_remove, met_more}
use Rattle.disk_fakes.proofs.history.History.remove_file.Goals as goal

pub invariant_of-self-2 : goal.invariant_of-self-2
invariant_of-self-2 c =
    let noted : c.note.new.ops.items ≡ c.args.self.now.ops.items ++ Remove c.args.name ∷ [] = c.note.ensures ∙ ap (λ (l : List Op). l ++ Remove c.args.name ∷ []) c.reserve.ensures.items in
    record {
      tied = tied_remove (files_in c.args.self.now.first) (files_in c.args.self.now.table) (files_in c.remove.new.self) c.args.self.now.ops.items c.note.new.ops.items c.args.name c.args.self.now.tied noted c.remove.ensures.removed c.remove.ensures.others;
      met = met_more (files_in c.args.self.now.first) c.args.self.now.ops.items c.note.new.ops.items (Remove c.args.name) c.args.self.now.met noted c.requires;
      named = c.args.self.now.named;
    }
