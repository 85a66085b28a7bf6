-- All passes of a handler are one handler's.
use Rattle.std.proofs.Common.{◌≡◌, ℕ, Option, Some, None, sym, ◌∙◌}
use Rattle.group_servers.specs.log_service.Places.{ServiceId}
use Rattle.group_servers.specs.region_calls.declared.pass.Pass.{Pass}
use Rattle.group_servers.specs.region_lock.declared.naming.LockNaming.{Ghosts}
use Rattle.group_servers.specs.Passes.{known_by, HasHandlerAt, IsPassAt}

module _ {N : Type 0} {g : Ghosts N} where
  -- the first pass keeps its handler
  pub first_keeps : (h now : ℕ) (p : Option (Pass N g)) → now ≡ h → HasHandlerAt h p → HasHandlerAt now p
  first_keeps h now None same is = tt
  first_keeps h now (Some p) same is = is ∙ sym same

  -- another one keeps it
  pub other_keeps : (place : Option ServiceId) (h : ℕ) (old new : Option (Pass N g)) → IsPassAt place old → IsPassAt place new
      → (known_by new).handler ≡ (known_by old).handler → HasHandlerAt h old → HasHandlerAt h new
  other_keeps place h old None was is same had = tt
  other_keeps None h old (Some q) was is same had = absurd is
  other_keeps (Some place) h None (Some q) was is same had = absurd was
  other_keeps (Some place) h (Some p) (Some q) was is same had = same ∙ had
