use Rattle.std.proofs.Common.{◌≡◌, inl, inr, ℕ, get_or, replicate, ap, ◌∙◌, arith}
use Rattle.std.proofs.lemmas.Bool.{cases_lt}
use Rattle.std.proofs.lemmas.List.{get_or-replicate, get_or_past, length-replicate}
use Rattle.device_trials.proofs.accounts.three_regions.Goals as goal

-- a list of one value reads as it everywhere
spread : {A : Type 0} (n r : ℕ) (x : A) → get_or (replicate n x) r x ≡ x
spread n r x = elim (cases_lt r n) [
  | inl within ↦ get_or-replicate n r x x within
  | inr past ↦ get_or_past (replicate n x) r x (let long = length-replicate n x in omega (arith, past, long))
]

pub returns-clause-idle : goal.returns-clause-idle
returns-clause-idle c r = ap (λ l. get_or l r 0) c.in_ok-accounting.ensures.flushing ∙ spread 65 r 0
