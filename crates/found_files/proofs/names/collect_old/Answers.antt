use Rattle.std.proofs.Common.{◌↔◌, List, Contains, take, sym, subst, arith}
use Rattle.std.proofs.lemmas.List.{take_more, take_all}
use Rattle.log_model.specs.declared.name.Name.{Name}
use Rattle.log_model.specs.declared.name.NameKind.TheVariants as kinds
use Rattle.found_files.specs.Names.{HasOld}
use Rattle.found_files.proofs.names.collect_old.Goals as goal

abbrev some_name : Name
some_name = record { kind = kinds.Log; region = 0; number = 0 }

pub loop-name-preserved : goal.loop-name-preserved
loop-name-preserved c n =
    let i = c.loop-name.name-index in
    subst (λ (l : List Name). Contains c.add_old.new.numbers.items n ↔ HasOld l n) (sym (take_more c.args.names.now i some_name c.loop-name-test.true))
    (c.in_ok-add_old.ensures (take i c.args.names.now) c.loop-name.invariant n)

pub returns : goal.returns
returns c n =
    subst (λ (l : List Name). Contains c.loop-name.numbers.items n ↔ HasOld l n) (take_all c.loop-name.name-index c.args.names.now (omega (arith, c.loop-name-test.false)))
    (c.loop-name.invariant n)
