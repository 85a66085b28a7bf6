use Rattle.std.proofs.Common.{◌≡◌, ◌<◌, ◌+◌, ℕ, List, length, drop, get_or, ⊎_elim, true, false, sym, subst}
use Rattle.std.proofs.lemmas.List.{drop_all, drop_more}
use Rattle.disk_fakes.specs.declared.op.Op.{Op}
use Rattle.disk_fakes.specs.Candidate.{IsSettled, IsSettle}
use Rattle.disk_fakes.proofs.op.is_settled.Goals as goal

later : (calls : List Op) (i : ℕ) (op : Op) → i < length calls → op ≡ get_or calls i op → (¬ IsSettle op) → IsSettled (drop i calls) → IsSettled (drop (i + 1) calls)
later calls i op lt is not pin =
    ⊎_elim (λ here. absurd (not (subst (λ (o : Op). IsSettle o) (sym is) here))) (λ more. more) (subst (λ (l : List Op). IsSettled l) (drop_more calls i op lt) pin)

pub loop-op-preserved : goal.loop-op-preserved
loop-op-preserved c pin =
    later c.args.calls.now c.loop-op.op-index c.op-item.result c.loop-op-test.true c.op-item.is
    (λ here. let no : false ≡ true = c.if-is_settle.ensures here in absurd (cc no)) (c.loop-op.invariant pin)

pub returns : goal.returns
returns c = λ is pin. subst (λ (l : List Op). IsSettled l) (drop_all c.loop-op.op-index c.args.calls.now c.loop-op-test.false) (c.loop-op.invariant pin)
