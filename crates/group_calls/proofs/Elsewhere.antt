-- Where one group's server is called, what the passes of the others know stays.
use Rattle.std.proofs.Common.{◌≡◌, ℕ, zero, suc, Option, refl, sym}
use Rattle.group_servers.specs.region_calls.declared.pass.Pass.{Pass}
use Rattle.group_servers.specs.region_lock.declared.naming.LockNaming.{Ghosts}
use Rattle.group_calls.specs.declared.groups.GroupPass.{GroupPass}
use Rattle.group_calls.specs.Passes.{known, StayElsewhere}

module _ {N1 N2 N3 N4 : Type 0} {g1 : Ghosts N1} {g2 : Ghosts N2} {g3 : Ghosts N3} {g4 : Ghosts N4} (group : ℕ) (old : GroupPass N1 N2 N3 N4 g1 g2 g3 g4) where
  pub first_called : (p : Pass N1 g1) → group ≡ 1
      → StayElsewhere group (known old) (known (record { first = p; second = old.second; third = old.third; fourth = old.fourth }))
  first_called p is zero other = refl
  first_called p is (suc zero) other = absurd (other (sym is))
  first_called p is (suc (suc zero)) other = refl
  first_called p is (suc (suc (suc zero))) other = refl
  first_called p is (suc (suc (suc (suc zero)))) other = refl
  first_called p is (suc (suc (suc (suc (suc n))))) other = refl

  pub second_called : (p : Option (Pass N2 g2)) → group ≡ 2
      → StayElsewhere group (known old) (known (record { first = old.first; second = p; third = old.third; fourth = old.fourth }))
  second_called p is zero other = refl
  second_called p is (suc zero) other = refl
  second_called p is (suc (suc zero)) other = absurd (other (sym is))
  second_called p is (suc (suc (suc zero))) other = refl
  second_called p is (suc (suc (suc (suc zero)))) other = refl
  second_called p is (suc (suc (suc (suc (suc n))))) other = refl

  pub third_called : (p : Option (Pass N3 g3)) → group ≡ 3
      → StayElsewhere group (known old) (known (record { first = old.first; second = old.second; third = p; fourth = old.fourth }))
  third_called p is zero other = refl
  third_called p is (suc zero) other = refl
  third_called p is (suc (suc zero)) other = refl
  third_called p is (suc (suc (suc zero))) other = absurd (other (sym is))
  third_called p is (suc (suc (suc (suc zero)))) other = refl
  third_called p is (suc (suc (suc (suc (suc n))))) other = refl

  pub fourth_called : (p : Option (Pass N4 g4)) → group ≡ 4
      → StayElsewhere group (known old) (known (record { first = old.first; second = old.second; third = old.third; fourth = p }))
  fourth_called p is zero other = refl
  fourth_called p is (suc zero) other = refl
  fourth_called p is (suc (suc zero)) other = refl
  fourth_called p is (suc (suc (suc zero))) other = refl
  fourth_called p is (suc (suc (suc (suc zero)))) other = absurd (other (sym is))
  fourth_called p is (suc (suc (suc (suc (suc n))))) other = refl
