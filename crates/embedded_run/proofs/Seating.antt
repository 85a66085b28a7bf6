-- Handlers as they take their passes.
use Rattle.std.proofs.Common.{◌≡◌, ℕ, zero, suc, ◌+◌, ◌≤◌, List, [], ◌∷◌, ◌++◌, length, sym, subst, arith}
use Rattle.server_model.specs.Pass.{Naming, IsFresh}
use Rattle.embedded.specs.log_service.Places.{ServiceId}
use Rattle.embedded.specs.region_lock.declared.naming.LockNaming.{Ghosts}
use Rattle.embedded.specs.region_calls.declared.pass.Pass.{Pass}
use Rattle.embedded_run.specs.Seats.{IsServer, IsAt, AllAt, IsTaken, AreTaken, AreSeated, pass_in}
use Rattle.embedded_run.specs.declared.seated.Seated.{Seated}

module _ {N H : Type 0} {g : Ghosts N} where
  pub taken_length : (n : ℕ) (hs : List H) (ss : List (Seated (Pass N g) H)) → AreTaken n hs ss → length ss ≡ length hs
  taken_length n [] [] t = omega arith
  taken_length n [] (s ∷ ss) t = absurd t
  taken_length n (h ∷ hs) [] t = absurd t
  taken_length n (h ∷ hs) (s ∷ ss) t = omega (arith, taken_length (n + 1) hs ss t.1)

  -- one more handler
  pub taken_push : (n : ℕ) (hs : List H) (h : H) (ss : List (Seated (Pass N g) H)) (s : Seated (Pass N g) H) → AreTaken n hs ss → IsTaken (n + length hs) h s → AreTaken n (hs ++ h ∷ []) (ss ++ s ∷ [])
  taken_push n [] h [] s t is = (subst (λ k. IsTaken k h s) (omega arith) is, tt)
  taken_push n [] h (x ∷ ss) s t is = absurd t
  taken_push n (y ∷ hs) h [] s t is = absurd t
  taken_push n (y ∷ hs) h (x ∷ ss) s t is = (t.0, taken_push (n + 1) hs h ss s t.1 (subst (λ k. IsTaken k h s) (omega arith) is))

  pub at_push : (place : ServiceId) (ss : List (Seated (Pass N g) H)) (s : Seated (Pass N g) H) → AllAt place ss → IsAt place s.pass → AllAt place (ss ++ s ∷ [])
  at_push place [] s all is = (is, tt)
  at_push place (x ∷ ss) s all is = (all.0, at_push place ss s all.1 is)

  -- handlers that have their passes may begin
  pub seated_all : (name : Naming) (place : ServiceId) (time regions n : ℕ) (hs : List H) (ss : List (Seated (Pass N g) H)) → IsServer name time regions → AreTaken n hs ss → AllAt place ss → 1 ≤ n
      → n + length hs ≤ name.handlers + 1 → AreSeated name place time regions ss
  seated_all name place time regions n [] [] server t all low few i d lt = absurd (omega (arith, lt))
  seated_all name place time regions n [] (s ∷ ss) server t all low few i d lt = absurd t
  seated_all name place time regions n (h ∷ hs) [] server t all low few i d lt = absurd t
  seated_all name place time regions n (h ∷ hs) (s ∷ ss) server t all low few (suc i) d lt =
      seated_all name place time regions (n + 1) hs ss server t.1 all.1 (omega (arith, low)) (omega (arith, few)) i d (omega (arith, lt))
  seated_all name place time regions n (h ∷ hs) (s ∷ ss) server t all low few zero d lt =
      let number : (pass_in s).handler ≡ n = t.0.fresh.handler in
      record {
        server = server;
        there = all.0;
        fresh = subst (λ k. IsFresh k (pass_in s)) (sym number) t.0.fresh;
        number = (omega (arith, number, low), omega (arith, number, few));
      }
