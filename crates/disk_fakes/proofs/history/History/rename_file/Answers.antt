use Rattle.std.proofs.Common.{◌≡◌, ◌∙◌, ap, Some, [], ◌∷◌, ◌++◌, List}
use Rattle.disk_fakes.specs.declared.op.Op.{Op}
use Rattle.disk_fakes.specs.declared.op.Op.TheVariants.{Rename}
use Rattle.disk_fakes.specs.Table.{files_in}
use Rattle.disk_fakes.specs.Views.{history_view}
use Rattle.disk_fakes.proofs.Steps.{tied_rename, met_more, text_in, absent_in}
use Rattle.disk_fakes.proofs.history.History.rename_file.Goals as goal

pub invariant_of-self-2 : goal.invariant_of-self-2
invariant_of-self-2 c =
    let text = text_in (files_in c.args.self.now.table) (history_view c.args.self.now).files c.args.from c.args.self.now.tied c.requires.0 in
    let noted : c.note.new.ops.items ≡ c.args.self.now.ops.items ++ Rename c.args.from c.args.to ∷ [] = c.note.ensures ∙ ap (λ (l : List Op). l ++ Rename c.args.from c.args.to ∷ []) c.reserve.ensures.items in
    record {
      tied = tied_rename (files_in c.args.self.now.first) (files_in c.args.self.now.table) (files_in c.put.new.self) (files_in c.remove.new.self) c.args.self.now.ops.items c.note.new.ops.items c.args.from c.args.to text.0 c.args.self.now.tied noted text.1 (absent_in (files_in c.args.self.now.table) (history_view c.args.self.now).files c.args.to c.args.self.now.tied c.requires.1) (c.in_ok-put.ensures.put ∙ ap Some (c.in_ok-copy.ensures text.0 text.1)) c.put.ensures.others c.remove.ensures.removed c.remove.ensures.others;
      met = met_more (files_in c.args.self.now.first) c.args.self.now.ops.items c.note.new.ops.items (Rename c.args.from c.args.to) c.args.self.now.met noted c.requires;
      named = c.args.self.now.named;
    }
