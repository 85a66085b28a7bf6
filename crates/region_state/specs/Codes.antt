-- By these a proof tells lines, versions and states apart, so that they can be the values of models.
use Rattle.std.specs.Prelude.{◌≡◌, ℕ, zero, suc, refl}
use Rattle.std.specs.Coded.{Coded, code_by, coded×, coded_ℕ}
use Rattle.cell_model.specs.Batch.{Batch}
use Rattle.cell_model.specs.Codes.{coded_batch}
use Rattle.region_model.specs.Journal.{Outcome, Pending, Done, Failed}
use Rattle.region_model.specs.Lines.{Line}

abbrev pub number_of : Outcome → ℕ
number_of Pending = 0
number_of Done = 1
number_of Failed = 2

abbrev pub outcome_at : ℕ → Outcome
outcome_at zero = Pending
outcome_at (suc zero) = Done
outcome_at (suc (suc n)) = Failed

pub outcome_again : (o : Outcome) → outcome_at (number_of o) ≡ o
outcome_again Pending = refl
outcome_again Done = refl
outcome_again Failed = refl

abbrev pub coded_outcome : Coded Outcome
coded_outcome = code_by ℕ coded_ℕ number_of outcome_at outcome_again

abbrev pub coded_line : Coded Line
coded_line =
    code_by (ℕ × (ℕ × (ℕ × (ℕ × (Batch × Outcome))))) (coded× coded_ℕ (coded× coded_ℕ (coded× coded_ℕ (coded× coded_ℕ (coded× coded_batch coded_outcome)))))
    (λ x. (x.number, (x.caller.handler, (x.caller.call, (x.time, (x.batch, x.outcome))))))
    (λ p. record { number = p.0; caller = record { handler = p.1.0; call = p.1.1.0 }; time = p.1.1.1.0; batch = p.1.1.1.1.0; outcome = p.1.1.1.1.1 }) (λ _. refl)
