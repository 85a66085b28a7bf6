use Rattle.std.proofs.Common.{◌≡◌, ◌<◌, ◌+◌, ℕ, List, length, drop, get_or, ⊎_elim, true, false, sym, subst}
use Rattle.std.proofs.lemmas.List.{drop_all, drop_more}
use Rattle.log_model.specs.declared.name.Name.{Name}
use Rattle.disk_fakes.specs.declared.op.Op.{Op}
use Rattle.disk_fakes.specs.Candidate.{IsPinned, Needs}
use Rattle.disk_fakes.proofs.op.is_pinned.Goals as goal

later : (calls : List Op) (i : ℕ) (op : Op) (name : Name) → i < length calls → op ≡ get_or calls i op → (¬ Needs op name) → IsPinned (drop i calls) name → IsPinned (drop (i + 1) calls) name
later calls i op name lt is not pin =
    ⊎_elim (λ here. absurd (not (subst (λ (o : Op). Needs o name) (sym is) here))) (λ more. more) (subst (λ (l : List Op). IsPinned l name) (drop_more calls i op lt) pin)

pub loop-op-preserved : goal.loop-op-preserved
loop-op-preserved c pin =
    later c.args.calls.now c.loop-op.op-index c.op-item.result c.args.name c.loop-op-test.true c.op-item.is
    (λ here. let no : false ≡ true = c.if-is_needing.ensures here in absurd (cc no)) (c.loop-op.invariant pin)

pub returns : goal.returns
returns c = λ is pin. subst (λ (l : List Op). IsPinned l c.args.name) (drop_all c.loop-op.op-index c.args.calls.now c.loop-op-test.false) (c.loop-op.invariant pin)
