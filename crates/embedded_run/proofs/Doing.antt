-- Handlers once they have worked.
use Rattle.std.proofs.Common.{◌≡◌, ℕ, zero, suc, ◌+◌, List, [], ◌∷◌, map, Contains, subst, refl, arith}
use Rattle.server_model.specs.Pass.{Pass as ThePass, Naming}
use Rattle.embedded.specs.log_service.Places.{ServiceId}
use Rattle.embedded.specs.region_lock.declared.naming.LockNaming.{Ghosts}
use Rattle.embedded.specs.region_calls.declared.pass.Pass.{Pass}
use Rattle.embedded_run.specs.Seats.{AllAt, AreTaken, HasWorked, HaveAllWorked, pass_in, handler_in}
use Rattle.embedded_run.specs.Deeds.{Deed, IsDone, AreDone, lasts_in}
use Rattle.embedded_run.specs.declared.seated.Seated.{Seated}

module _ {N H : Type 0} {g : Ghosts N} (says : H → Naming → ℕ → ThePass → ThePass → H → Type 0) (name : Naming) (place : ServiceId) (time : ℕ) where
  abbrev EachWorked : List (Seated (Pass N g) H) → List (Seated (Pass N g) H) → Type 0
  EachWorked [] [] = Unit {0}
  EachWorked [] (x ∷ xs) = ⊥
  EachWorked (o ∷ os) [] = ⊥
  EachWorked (o ∷ os) (x ∷ xs) = HasWorked says name place time o x × EachWorked os xs

  each_worked : (os xs : List (Seated (Pass N g) H)) → HaveAllWorked says name place time os xs → EachWorked os xs
  each_worked [] [] h = tt
  each_worked [] (x ∷ xs) h = absurd (omega (arith, h.len))
  each_worked (o ∷ os) [] h = absurd (omega (arith, h.len))
  each_worked (o ∷ os) (x ∷ xs) h = (h.each 0 o (omega arith), each_worked os xs record { len = omega (arith, h.len); each = λ i d lt. h.each (suc i) d (omega (arith, lt)) })

  all_at : (os xs : List (Seated (Pass N g) H)) → EachWorked os xs → AllAt place xs
  all_at [] [] each = tt
  all_at [] (x ∷ xs) each = absurd each
  all_at (o ∷ os) [] each = tt
  all_at (o ∷ os) (x ∷ xs) each = (each.0.there, all_at os xs each.1)

  -- all passes are of the server
  pub worked_at : (os xs : List (Seated (Pass N g) H)) → HaveAllWorked says name place time os xs → AllAt place xs
  worked_at os xs h = all_at os xs (each_worked os xs h)

  abbrev deed_of : Seated (Pass N g) H → Seated (Pass N g) H → Deed H
  deed_of o x = record { before = handler_in o; first = pass_in o; last = pass_in x; after = handler_in x }

  -- what is told of them, from this number on
  pub record AreTold (n : ℕ) (hs : List H) (xs : List (Seated (Pass N g) H)) (ds : List (Deed H)) : Type 0 where
    pub before : map (λ (d : Deed H). d.before) ds ≡ hs
    pub after : map (λ (d : Deed H). d.after) ds ≡ map handler_in xs
    pub lasts : lasts_in ds ≡ map pass_in xs
    pub each : AreDone says name time n ds

  told_each : (n : ℕ) (hs : List H) (os xs : List (Seated (Pass N g) H)) → AreTaken n hs os → EachWorked os xs → (ds : List (Deed H)) × AreTold n hs xs ds
  told_each n [] [] [] taken each = ([], record { before = refl; after = refl; lasts = refl; each = tt })
  told_each n [] [] (x ∷ xs) taken each = absurd each
  told_each n [] (o ∷ os) xs taken each = absurd taken
  told_each n (h ∷ hs) [] xs taken each = absurd taken
  told_each n (h ∷ hs) (o ∷ os) [] taken each = absurd each
  told_each n (h ∷ hs) (o ∷ os) (x ∷ xs) taken each =
      let rest = told_each (n + 1) hs os xs taken.1 each.1 in (
        deed_of o x ∷ rest.0,
        record {
          before = λ i. taken.0.handler i ∷ rest.1.before i;
          after = λ i. handler_in x ∷ rest.1.after i;
          lasts = λ i. pass_in x ∷ rest.1.lasts i;
          each = (record { fresh = taken.0.fresh; later = each.0.later; said = each.0.said }, rest.1.each);
        },
      )

  pub told_all : (hs : List H) (os xs : List (Seated (Pass N g) H)) → AreTaken 1 hs os → HaveAllWorked says name place time os xs → (ds : List (Deed H)) × AreTold 1 hs xs ds
  told_all hs os xs taken worked = told_each 1 hs os xs taken (each_worked os xs worked)

-- the deed of each handler, and its number
pub done_each : {H : Type 0} (says : H → Naming → ℕ → ThePass → ThePass → H → Type 0) (name : Naming) (time n : ℕ) (ds : List (Deed H)) (d : Deed H) → AreDone says name time n ds → Contains ds d
    → (k : ℕ) × IsDone says name time k d
done_each says name time n [] d done is = absurd (omega (arith, is.1))
done_each {H} says name time n (x ∷ ds) d done (zero, lt, same) = (n, subst (λ (y : Deed H). IsDone says name time n y) same done.0)
done_each says name time n (x ∷ ds) d done (suc k, lt, same) = done_each says name time (n + 1) ds d done.1 (k, omega (arith, lt), same)
