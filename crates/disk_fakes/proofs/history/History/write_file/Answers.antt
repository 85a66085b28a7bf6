use Rattle.std.proofs.Common.{◌≡◌, ◌∙◌, sym, ap, [], ◌∷◌, ◌++◌, List, refl}
use Rattle.disk_fakes.specs.declared.op.Op.{Op}
use Rattle.disk_fakes.specs.declared.op.Op.TheVariants.{Write}
use Rattle.disk_fakes.specs.Table.{files_in}
use Rattle.disk_fakes.specs.Views.{history_view}
use Rattle.disk_fakes.proofs.Steps.{tied_write, tied_same, all_same, met_more, met_same, reaches, reads_in}
use Rattle.disk_fakes.proofs.history.History.write_file.Goals as goal

pub overwrite-requires : goal.overwrite-requires
overwrite-requires c = reads_in (files_in c.args.self.now.table) (history_view c.args.self.now).files c.args.name c.args.at c.args.self.now.tied c.requires

pub invariant_of-self-in-Break-branch-3 : goal.invariant_of-self-in-Break-branch-3
invariant_of-self-in-Break-branch-3 c =
    let r = reads_in (files_in c.args.self.now.table) (history_view c.args.self.now).files c.args.name c.args.at c.args.self.now.tied c.requires in
    record {
      tied = tied_same (files_in c.args.self.now.first) (files_in c.args.self.now.table) (files_in c.overwrite.new.self) c.args.self.now.ops.items c.reserve.new.self.items c.args.self.now.tied c.reserve.ensures.items (all_same (files_in c.args.self.now.table) (files_in c.overwrite.new.self) c.args.name r.0 r.1 (c.in_err-overwrite.ensures.err r.0 r.1) c.overwrite.ensures.others);
      met = met_same (files_in c.args.self.now.first) c.args.self.now.ops.items c.reserve.new.self.items c.args.self.now.met c.reserve.ensures.items;
      named = c.args.self.now.named;
    }

pub invariant_of-self-2 : goal.invariant_of-self-2
invariant_of-self-2 c =
    let r = reads_in (files_in c.args.self.now.table) (history_view c.args.self.now).files c.args.name c.args.at c.args.self.now.tied c.requires in
    let now = c.in_ok-overwrite.ensures.written in
    let noted : c.note.new.ops.items ≡ c.args.self.now.ops.items ++ Write c.args.name c.args.at c.in_ok-copy.copy ∷ [] = c.note.ensures ∙ ap (λ (l : List Op). l ++ Write c.args.name c.args.at c.in_ok-copy.copy ∷ []) c.reserve.ensures.items in
    record {
      tied = tied_write (files_in c.args.self.now.first) (files_in c.args.self.now.table) (files_in c.overwrite.new.self) c.args.self.now.ops.items c.note.new.ops.items c.args.name c.args.at c.in_ok-copy.copy c.deref.result.now r.0 c.args.self.now.tied noted (sym c.deref.ensures.value) r.1 (now r.0 r.1) c.overwrite.ensures.others;
      met = met_more (files_in c.args.self.now.first) c.args.self.now.ops.items c.note.new.ops.items (Write c.args.name c.args.at c.in_ok-copy.copy) c.args.self.now.met noted (reaches (history_view c.args.self.now).files c.args.name c.args.at c.requires);
      named = c.args.self.now.named;
    }

pub returns-clause-did : goal.returns-clause-did
returns-clause-did c =
    (c.in_ok-copy.copy, c.in_ok-copy.ensures.long, c.in_ok-copy.ensures.whole, record { first = refl; ops = c.note.ensures ∙ ap (λ (l : List Op). l ++ Write c.args.name c.args.at c.in_ok-copy.copy ∷ []) c.reserve.ensures.items })
