-- What is counted of puts, step by step.
use Rattle.std.proofs.Common.{◌≡◌, ℕ, zero, suc, Bool, refl, ap, ◌∙◌}
use Rattle.log_halves.specs.Counts.{one_more}
use Rattle.log_service.specs.declared.tally.Watch.{Watch}
use Rattle.log_service.specs.Tallies.{risen, found_full, watched, HasWatched}

risen_first : (k n : ℕ) → risen k (one_more n) ≡ one_more (risen k n)
risen_first zero n = refl
risen_first (suc k) n = ap one_more (risen_first k n)

-- nothing was counted yet
pub none_watched : (w : Watch) → HasWatched 0 0 w w
none_watched w = record { full = refl; looked = refl }

-- the ring was found full once more, and then the fault word was looked at
pub full_watched : (j k : ℕ) (b : Bool) (first old : Watch) → HasWatched j k first old → HasWatched (suc j) (suc k) first (watched b (found_full old))
full_watched j k b first old h = record { full = ap one_more h.full; looked = ap one_more h.looked }

-- the fault word was looked at before all that
pub start_watched : (j k : ℕ) (b : Bool) (first new : Watch) → HasWatched j k (watched b first) new → HasWatched j (suc k) first new
start_watched j k b first new h = record { full = h.full; looked = h.looked ∙ risen_first k first.looks }
