use Rattle.std.proofs.Common.{List, take, sym, subst}
use Rattle.std.proofs.lemmas.List.{take_more}
use Rattle.log_model.specs.declared.name.Name.{Name}
use Rattle.log_model.specs.declared.name.NameKind.TheVariants as kinds
use Rattle.log_tail.specs.Found.{HasSeen}
use Rattle.log_tail.proofs.finding.look_for.Goals as goal

abbrev some_name : Name
some_name = record { kind = kinds.Log; region = 0; number = 0 }

pub loop-name-preserved : goal.loop-name-preserved
loop-name-preserved c =
    let i = c.loop-name.name-index in (
      subst (λ (l : List Name). HasSeen l c.args.number c.see.new.self) (sym (take_more c.args.names.now i some_name c.loop-name-test.true)) (c.see.ensures.seen (take i c.args.names.now) c.loop-name.invariant.0),
      c.see.ensures.last c.loop-name.invariant.1,
    )
