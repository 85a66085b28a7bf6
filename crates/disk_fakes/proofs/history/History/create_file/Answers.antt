use Rattle.std.proofs.Common.{◌≡◌, ◌∙◌, ap, Some, [], ◌∷◌, ◌++◌, List}
use Rattle.disk_fakes.specs.declared.op.Op.{Op}
use Rattle.disk_fakes.specs.declared.op.Op.TheVariants.{Create}
use Rattle.disk_fakes.specs.Table.{files_in}
use Rattle.disk_fakes.proofs.Steps.{tied_create, met_more}
use Rattle.disk_fakes.proofs.history.History.create_file.Goals as goal

pub invariant_of-self-2 : goal.invariant_of-self-2
invariant_of-self-2 c =
    let noted : c.note.new.ops.items ≡ c.args.self.now.ops.items ++ Create c.args.name ∷ [] = c.note.ensures ∙ ap (λ (l : List Op). l ++ Create c.args.name ∷ []) c.reserve.ensures.items in
    record {
      tied = tied_create (files_in c.args.self.now.first) (files_in c.args.self.now.table) (files_in c.put.new.self) c.args.self.now.ops.items c.note.new.ops.items c.args.name c.args.self.now.tied noted (c.in_ok-put.ensures.put ∙ ap Some c.new.ensures.items) c.in_ok-put.ensures.others;
      met = met_more (files_in c.args.self.now.first) c.args.self.now.ops.items c.note.new.ops.items (Create c.args.name) c.args.self.now.met noted c.requires;
      named = c.args.self.now.named;
    }
