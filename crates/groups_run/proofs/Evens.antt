-- The passes of all servers are handed out evenly.
use Rattle.std.proofs.Common.{◌≡◌, ℕ, ◌+◌, ◌<◌, Option, Some, None, sym, ap, arith, ◌∙◌}
use Rattle.group_calls.specs.region_calls.declared.pass.Pass.{Pass}
use Rattle.group_calls.specs.region_calls.declared.passes.Passes.{Passes}
use Rattle.group_calls.specs.region_lock.declared.naming.LockNaming.{Ghosts}
use Rattle.group_calls.specs.group_servers.Dealing.{IsLeftAt, IsNextAt, IsBackAt, IsEvenAt}
use Rattle.group_calls.specs.group_servers.Passes.{HasHandlerAt}

module _ {N : Type 0} {g : Ghosts N} where
  -- evenly handed out: one is left where the first server has one
  pub even_left : (h these out : ℕ) (p : Option (Passes N g)) → IsEvenAt h out these p → out < h → IsLeftAt these p
  even_left h these out None even low = tt
  even_left h these out (Some p) even low = omega (arith, even.0, even.1, low)

  pub even_next : (h these out next : ℕ) (p : Option (Passes N g)) (r : Option (Pass N g)) (q : Option (Passes N g)) → IsEvenAt h out these p → IsNextAt p r q
      → next ≡ out + 1 → IsEvenAt h next these q
  even_next h these out next None None None even step is = tt
  even_next h these out next None None (Some q) even step is = absurd step
  even_next h these out next None (Some x) q even step is = absurd step
  even_next h these out next (Some p) None q even step is = absurd step
  even_next h these out next (Some p) (Some x) None even step is = absurd step
  even_next h these out next (Some p) (Some x) (Some q) even step is = (even.0, step.out ∙ (let e = even.1 in omega (arith, e, is)))

  pub even_back : (h these out next : ℕ) (p : Option (Passes N g)) (r : Option (Pass N g)) (q : Option (Passes N g)) → IsEvenAt h out these p → IsBackAt p r q
      → next ≡ out → IsEvenAt h next these q
  even_back h these out next None None None even step is = tt
  even_back h these out next None None (Some q) even step is = absurd step
  even_back h these out next None (Some x) q even step is = absurd step
  even_back h these out next (Some p) None q even step is = absurd step
  even_back h these out next (Some p) (Some x) None even step is = absurd step
  even_back h these out next (Some p) (Some x) (Some q) even step is = (even.0, step.out ∙ even.1 ∙ sym is)

  pub even_same : (h these out next : ℕ) (p : Option (Passes N g)) → IsEvenAt h out these p → next ≡ out → IsEvenAt h next these p
  even_same h these out next None even is = tt
  even_same h these out next (Some p) even is = (even.0, even.1 ∙ sym is)

  -- the next handler's is handed out
  pub handed_out : (h these out handler : ℕ) (p : Option (Passes N g)) (r : Option (Pass N g)) (q : Option (Passes N g)) → IsEvenAt h out these p → IsNextAt p r q
      → handler ≡ out + 1 → HasHandlerAt handler r
  handed_out h these out handler p None q even step is = tt
  handed_out h these out handler None (Some x) q even step is = absurd step
  handed_out h these out handler (Some p) (Some x) None even step is = absurd step
  handed_out h these out handler (Some p) (Some x) (Some q) even step is = step.fresh.handler ∙ ap (λ (n : ℕ). n + 1) even.1 ∙ sym is
