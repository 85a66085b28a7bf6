-- Passes and seats of groups' servers are handed out, and come back.
use Rattle.std.proofs.Common.{◌≡◌, ℕ, ◌+◌, ◌<◌, List, Option, Some, None, IfSome, IfNone, arith}
use Rattle.handler_threads.specs.log_service.declared.seats.LogSeat.{LogSeat}
use Rattle.handler_threads.specs.log_service.Places.{ServiceId, IsSeatOf}
use Rattle.handler_threads.specs.region_calls.Deals.{AreSeatsOf, passes_out, passes_back, ArePassesOf}
use Rattle.handler_threads.specs.region_calls.Passes.{knows, IsPassOf}
use Rattle.handler_threads.specs.region_calls.declared.pass.Pass.{Pass}
use Rattle.handler_threads.specs.region_calls.declared.passes.Passes.{Passes}
use Rattle.handler_threads.specs.region_lock.declared.naming.LockNaming.{Ghosts}
use Rattle.server_model.specs.Pass.{IsFresh}
use Rattle.group_servers.specs.Dealing.{ArePassesAt, IsNextAt}
use Rattle.group_servers.specs.Helping.{AreSeatsAt, IsSeatAt}
use Rattle.group_servers.specs.Passes.{IsPassAt}

pub seats_next : (old new : List LogSeat) (r : Option LogSeat)
    → ((place : ServiceId) → AreSeatsOf place old → AreSeatsOf place new × IfSome r (λ seat. IsSeatOf place seat))
    → (place : Option ServiceId) → AreSeatsAt place (Some old) → AreSeatsAt place (Some new) × IfSome r (λ seat. IsSeatAt place seat)
seats_next old new r then None at = absurd at
seats_next old new r then (Some place) at = then place at

pub seats_back : (old new : List LogSeat) (seat : LogSeat) → ((place : ServiceId) → AreSeatsOf place old → IsSeatOf place seat → AreSeatsOf place new)
    → (place : Option ServiceId) → AreSeatsAt place (Some old) → IsSeatAt place seat → AreSeatsAt place (Some new)
seats_back old new seat then None at is = absurd at
seats_back old new seat then (Some place) at is = then place at is

module _ {N : Type 0} {g : Ghosts N} where
  pub passes_there : (place : Option ServiceId) (h : ℕ) (p : Passes N g) → ArePassesAt place h (Some p) → (there : ServiceId) × ArePassesOf there h p
  passes_there None h p at = absurd at
  passes_there (Some place) h p at = (place, at)

  pub next_some : (h : ℕ) (p q : Passes N g) (r : Option (Pass N g)) → passes_out p < h
      → IfSome r (λ x. (passes_out p < h) × (passes_out q ≡ passes_out p + 1) × IsFresh (passes_out p + 1) (knows x)) → IfNone r ((passes_out p ≡ h) × (passes_out q ≡ h))
      → passes_back q ≡ passes_back p → IsNextAt (Some p) r (Some q)
  next_some h p q None left some none back = absurd (omega (arith, left, none.0))
  next_some h p q (Some x) left some none back = record { fresh = some.2; out = some.1; back = back }

  pub next_of : (h : ℕ) (p q : Passes N g) (r : Option (Pass N g)) → passes_out p < h → IfNone r ((passes_out p ≡ h) × (passes_out q ≡ h))
      → ((place : ServiceId) → ArePassesOf place h p → ArePassesOf place h q × IfSome r (λ x. IsPassOf place x))
      → (place : Option ServiceId) → ArePassesAt place h (Some p) → ArePassesAt place h (Some q) × IsPassAt place r
  next_of h p q r left none then None at = absurd at
  next_of h p q None left none then (Some place) at = absurd (omega (arith, left, none.0))
  next_of h p q (Some x) left none then (Some place) at = then place at

  pub back_there : (place : Option ServiceId) (h : ℕ) (p : Passes N g) (x : Pass N g) → ArePassesAt place h (Some p) → IsPassAt place (Some x)
      → (there : ServiceId) × ArePassesOf there h p × IsPassOf there x
  back_there None h p x at is = absurd at
  back_there (Some place) h p x at is = (place, at, is)

  pub back_of : (h : ℕ) (p q : Passes N g) (x : Pass N g) → ((place : ServiceId) → ArePassesOf place h p → IsPassOf place x → ArePassesOf place h q)
      → (place : Option ServiceId) → ArePassesAt place h (Some p) → IsPassAt place (Some x) → ArePassesAt place h (Some q)
  back_of h p q x then None at is = absurd at
  back_of h p q x then (Some place) at is = then place at is
