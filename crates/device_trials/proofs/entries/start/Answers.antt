use Rattle.std.proofs.Common.{◌≡◌, ◌⊎◌, inl, inr, ℕ, [], ◌∷◌, Contains, refl, sym, ap, ◌∙◌, arith}
use Rattle.std.proofs.lemmas.List.Elements.{Contains-push_cases}
use Rattle.log_ledger.specs.declared.base.RegionBase.{RegionBase}
use Rattle.disk_fakes.specs.Views.{view_of}
use Rattle.device_trials.proofs.Empty.{opened_empty}
use Rattle.device_trials.proofs.entries.start.Goals as goal

abbrev one : RegionBase
one = record { region = 1; flushed = 0; next_store = 1 }

abbrev two : RegionBase
two = record { region = 2; flushed = 0; next_store = 1 }

nothing : (m : RegionBase) → Contains (one ∷ two ∷ []) m → 0 ≡ m.flushed
nothing m has = elim (Contains-push_cases (one ∷ []) two m has) as (λ _. 0 ≡ m.flushed) [
  | inl first ↦ elim (Contains-push_cases [] one m first) as (λ _. 0 ≡ m.flushed) [ inl none ↦ absurd (omega (arith, none.1)) | inr is ↦ ap (λ (b : RegionBase). b.flushed) is ]
  | inr is ↦ ap (λ (b : RegionBase). b.flushed) is
]

pub start-requires-clause-opened : goal.start-requires-clause-opened
start-requires-clause-opened c told =
    ∣ (λ r. 0, opened_empty (view_of c.in_ok-disk.disk) (one ∷ two ∷ []) c.in_ok-disk.ensures.empty c.in_ok-disk.ensures.none_gone c.in_ok-disk.ensures.quiet nothing) ∣₁
