use Rattle.std.proofs.Common.{◌≡◌, ℕ, ◌+◌, take, get_or, sym, ◌∙◌, subst, arith}
use Rattle.log_model.specs.declared.name.Name.{Name}
use Rattle.log_model.specs.declared.name.NameKind.TheVariants as kinds
use Rattle.log_model.specs.Recovered.{IsGreatest}
use Rattle.log_device.specs.Opened.{log_number}
use Rattle.log_device.proofs.Starting.{HasLog, greatest_none, greatest_same, greatest_new, greatest_all}
use Rattle.log_device.proofs.opening.last_number.Goals as goal
use Rattle.log_device.proofs.opening.last_number.Goals.{then-number-last, else-number-last}

abbrev some_name : Name
some_name = record { kind = kinds.Log; region = 0; number = 0 }

pub loop-name-init : goal.loop-name-init
loop-name-init c = greatest_none c.args.names.now

pub loop-name-preserved : goal.loop-name-preserved
loop-name-preserved c =
    let names = c.args.names.now in
    let i = c.loop-name.name-index in
    let there = c.loop-name-test.true in
    let number : c.number_of_log-number.result ≡ log_number (get_or names i some_name) = c.number_of_log-number.ensures in
    elim c.if-number-last.branch [
      | then-number-last w ↦ subst (λ (n : ℕ). IsGreatest (HasLog (take (i + 1) names)) n) (sym number ∙ sym w.last-is) (greatest_new names i c.loop-name.last some_name there (omega (arith, w.if-number-last.true, number)) c.loop-name.invariant)
      | else-number-last w ↦ subst (λ (n : ℕ). IsGreatest (HasLog (take (i + 1) names)) n) (sym w.last-is) (greatest_same names i c.loop-name.last some_name there (omega (arith, w.if-number-last.false, number)) c.loop-name.invariant)
    ]

pub returns : goal.returns
returns c = greatest_all c.args.names.now _ _ (omega arith) c.loop-name.invariant
