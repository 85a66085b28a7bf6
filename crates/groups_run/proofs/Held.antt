-- How many seats of each group are not handed out.
use Rattle.std.proofs.Common.{◌≡◌, ◌≢◌, ℕ, zero, suc, List, length, Option, Some, None, refl}
use Rattle.group_calls.specs.log_service.declared.seats.LogSeat.{LogSeat}
use Rattle.group_calls.specs.log_service.Places.{ServiceId}
use Rattle.groups_run.specs.declared.helpers.GroupHelpers.{GroupHelpers}
use Rattle.group_calls.specs.group_servers.Helping.{seats_at, AreSeatsAt, IsSeatAt}
use Rattle.groups_run.specs.Helpers.{held}

-- those of the other groups stay
pub held_same : (group : ℕ) (old new : GroupHelpers) → (1 ≢ group → length new.first ≡ length old.first) → (2 ≢ group → seats_at new.second ≡ seats_at old.second)
    → (3 ≢ group → seats_at new.third ≡ seats_at old.third) → (4 ≢ group → seats_at new.fourth ≡ seats_at old.fourth) → (k : ℕ) → k ≢ group → held new k ≡ held old k
held_same group old new a b c d zero other = refl
held_same group old new a b c d (suc zero) other = a other
held_same group old new a b c d (suc (suc zero)) other = b other
held_same group old new a b c d (suc (suc (suc zero))) other = c other
held_same group old new a b c d (suc (suc (suc (suc zero)))) other = d other
held_same group old new a b c d (suc (suc (suc (suc (suc n))))) other = refl

-- none is left of any
pub held_none : (old new : GroupHelpers) → (length old.first ≡ 0) × (length new.first ≡ 0) → (seats_at old.second ≡ 0) × (seats_at new.second ≡ 0)
    → (seats_at old.third ≡ 0) × (seats_at new.third ≡ 0) → (seats_at old.fourth ≡ 0) × (seats_at new.fourth ≡ 0) → (k : ℕ) → (held old k ≡ 0) × (held new k ≡ 0)
held_none old new a b c d zero = (refl, refl)
held_none old new a b c d (suc zero) = a
held_none old new a b c d (suc (suc zero)) = b
held_none old new a b c d (suc (suc (suc zero))) = c
held_none old new a b c d (suc (suc (suc (suc zero)))) = d
held_none old new a b c d (suc (suc (suc (suc (suc n))))) = (refl, refl)

pub seats_there : (place : Option ServiceId) (seats : Option (List LogSeat)) (seat : LogSeat) → AreSeatsAt place seats → IsSeatAt place seat → seats ≢ None
seats_there None None seat are is = absurd is
seats_there None (Some seats) seat are is = absurd are
seats_there (Some place) None seat are is = absurd are
seats_there (Some place) (Some seats) seat are is = λ e. absurd (cc e)
