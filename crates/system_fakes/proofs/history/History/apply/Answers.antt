use Rattle.std.proofs.Common.{◌≡◌, ◌∙◌, ap, [], ◌∷◌, ◌++◌, List}
use Rattle.system_fakes.specs.declared.op.Op.{Op}
use Rattle.system_fakes.specs.Table.{held_in}
use Rattle.system_fakes.proofs.Steps.{tied_more, met_more}
use Rattle.system_fakes.proofs.history.History.apply.Goals as goal

pub invariant_of-self-2 : goal.invariant_of-self-2
invariant_of-self-2 c =
    let noted : c.note.new.ops.items ≡ c.args.self.now.ops.items ++ c.args.op ∷ [] = c.note.ensures ∙ ap (λ (l : List Op). l ++ c.args.op ∷ []) c.reserve.ensures.items in
    record {
      tied = tied_more (held_in c.args.self.now.first) (held_in c.args.self.now.table) (held_in c.apply.new.self) c.args.self.now.ops.items c.note.new.ops.items c.args.op c.args.self.now.tied noted c.in_ok-apply.ensures.done;
      met = met_more (held_in c.args.self.now.first) (held_in c.args.self.now.table) c.args.self.now.ops.items c.note.new.ops.items c.args.op c.args.self.now.tied c.args.self.now.met noted c.requires;
      named = c.args.self.now.named;
      single = c.args.self.now.single;
      given = c.args.self.now.given;
      no_part = c.args.self.now.no_part;
      certain = c.args.self.now.certain;
    }
