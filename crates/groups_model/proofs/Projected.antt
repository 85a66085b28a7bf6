-- What handlers' calls do to the passes of several servers is for each server what the calls on it do.
use Rattle.std.proofs.Common.{[], ◌∷◌, cond, sym, subst, inl, inr}
use Rattle.std.proofs.lemmas.Bool.{eq-eqb, ne_eqb, cases_eq}
use Rattle.server_model.specs.Steps.{Runs}
use Rattle.groups_model.specs.Groups.{group_for, replies_on, EachGroupRuns}

pub projected : EachGroupRuns
projected groups names time old new [] same k = same k
projected groups names time old new (y ∷ ys) (mid, step, runs) k =
    let rest = projected groups names time mid new ys runs k in
    let g = group_for groups y.handler y.call in
    elim (cases_eq g k) [
      | inl same ↦ subst (λ b. Runs (names k) time (old k) (cond b (y ∷ replies_on groups k ys) (replies_on groups k ys)) (new k)) (sym (eq-eqb g k same))
          (mid k, step.here k (sym same), rest)
      | inr other ↦ subst (λ b. Runs (names k) time (old k) (cond b (y ∷ replies_on groups k ys) (replies_on groups k ys)) (new k)) (sym (ne_eqb g k other))
          (subst (λ p. Runs (names k) time p (replies_on groups k ys) (new k)) (step.elsewhere k (λ e. other (sym e))) rest)
    ]
