-- What is counted of the puts of one pass into one region.
use Rattle.std.specs.Prelude.{◌≡◌, ◌⊎◌, ℕ, zero, suc, Bool, true, false}
use Rattle.log_halves.specs.Counts.{one_more}
use Rattle.log_service.specs.declared.tally.Asked.{Asked}
use Rattle.log_service.specs.declared.tally.Watch.{Watch}
use Rattle.log_service.specs.declared.tally.PutTally.{PutTally}

-- so many more, up to the end of the type
abbrev pub risen : ℕ → ℕ → ℕ
risen zero n = n
risen (suc k) n = one_more (risen k n)

-- one sync request more was pushed, of this region, up to this number
abbrev pub asked_for : ℕ → ℕ → Asked → Asked
asked_for r n a = record { requests = one_more a.requests; region = r; number = n }

-- the ring was found full once more
abbrev pub found_full : Watch → Watch
found_full w = record { full = one_more w.full; looks = w.looks; broken = w.broken }

-- the fault word was looked at once more, and this was found
abbrev pub watched : Bool → Watch → Watch
watched broken w = record { full = w.full; looks = one_more w.looks; broken = broken }

-- the last look found the fault word set
abbrev pub saw_fault : Watch → Bool
saw_fault w = w.broken

-- Since then the ring was found full so often, and the fault word looked at so often.
pub record HasWatched (found looks : ℕ) (old new : Watch) : Type 0 where
  pub full : new.full ≡ risen found old.full
  pub looked : new.looks ≡ risen looks old.looks

-- A sync request of region r up to n was pushed; or none was, and the fault word was seen set.
abbrev pub HasAsked : ℕ → ℕ → Asked → Asked → Bool → Type 0
HasAsked r n old new broken = (new ≡ asked_for r n old) ⊎ ((new ≡ old) × (broken ≡ true))

-- nothing was counted
abbrev pub no_tally : PutTally
no_tally = record { asked = record { requests = 0; region = 0; number = 0 }; watch = record { full = 0; looks = 0; broken = false } }
