use Rattle.std.proofs.Common.{◌≡◌, List, [], get_or, subst}
use Rattle.std.specs.Prelude.{IfOk}
use Rattle.log_model.specs.Entry.{Entry}
use Rattle.log_trucks.specs.Held.{AreHeld}
use Rattle.log_ledger.specs.Numbers.{Numbers, AreInOrder}
use Rattle.log_ledger.proofs.Cells.{due_of_all, cells_between, cells_of, cells_cut}
use Rattle.log_ledger.proofs.ledger.Ledger.cells.Goals as goal

told : (c : goal.After-cells) (es : List Entry) → AreHeld (get_or c.args.self.now.chains c.args.region []) es → IfOk c.cells.result (λ cells. cells ≡ due_of_all c.args.self.now.accounts c.args.region c.args.family.now es)
told c = subst (λ (b : Numbers). (es : List Entry) → AreHeld (get_or b.chains c.args.region []) es → IfOk c.cells.result (λ cells. cells ≡ due_of_all b.accounts c.args.region c.args.family.now es)) c.self.view_is c.cells.ensures

pub returns-clause-within : goal.returns-clause-within
returns-clause-within c = cells_between c.cells.result c.args.self.now c.args.region c.args.family.now (subst AreInOrder c.self.view_is c.self.invariant) (told c)

pub returns-clause-of : goal.returns-clause-of
returns-clause-of c = cells_of c.cells.result c.args.self.now c.args.region c.args.family.now (subst AreInOrder c.self.view_is c.self.invariant) (told c)

pub returns-clause-cut : goal.returns-clause-cut
returns-clause-cut c h counted none = cells_cut c.cells.result c.args.self.now h c.args.region c.args.family.now (subst AreInOrder c.self.view_is c.self.invariant) c.requires counted none (told c)
