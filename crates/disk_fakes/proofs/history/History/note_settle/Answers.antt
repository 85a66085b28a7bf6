use Rattle.std.proofs.Common.{◌≡◌, ◌∙◌, ap, [], ◌∷◌, ◌++◌, List}
use Rattle.disk_fakes.specs.declared.op.Op.{Op}
use Rattle.disk_fakes.specs.declared.op.Op.TheVariants.{Settle}
use Rattle.disk_fakes.specs.Table.{files_in}
use Rattle.disk_fakes.proofs.Steps.{tied_settle, met_more}
use Rattle.disk_fakes.proofs.history.History.note_settle.Goals as goal

pub invariant_of-self-2 : goal.invariant_of-self-2
invariant_of-self-2 c =
    let noted : c.note.new.ops.items ≡ c.args.self.now.ops.items ++ Settle ∷ [] = c.note.ensures ∙ ap (λ (l : List Op). l ++ Settle ∷ []) c.reserve.ensures.items in
    record {
      tied = tied_settle (files_in c.args.self.now.first) (files_in c.args.self.now.table) c.args.self.now.ops.items c.note.new.ops.items c.args.self.now.tied noted;
      met = met_more (files_in c.args.self.now.first) c.args.self.now.ops.items c.note.new.ops.items (Settle) c.args.self.now.met noted tt;
      named = c.args.self.now.named;
    }
