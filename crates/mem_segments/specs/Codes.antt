-- By this a proof tells bases apart, so that a base can be a model's value.
use Rattle.std.specs.Prelude.{ℕ, refl}
use Rattle.std.specs.Coded.{Coded, code_by, coded×, coded_ℕ}
use Rattle.cell_model.specs.Order.{Content}
use Rattle.cell_model.specs.Codes.{coded_content}
use Rattle.region_model.specs.Journal.{Base}

abbrev pub coded_base : Coded Base
coded_base = code_by (Content × ℕ) (coded× coded_content coded_ℕ) (λ b. (b.content, b.last)) (λ p. record { content = p.0; last = p.1 }) (λ _. refl)
