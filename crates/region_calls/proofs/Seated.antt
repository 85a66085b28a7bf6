-- Seats, hands and passes that are handed out and come back.
use Rattle.std.proofs.Common.{◌≡◌, ◌⊎◌, inl, inr, ℕ, zero, suc, ◌+◌, ◌≤◌, List, [], ◌∷◌, ◌++◌, length, replicate, false, Option, Some, None, slice_get, refl, sym, ap, ◌∙◌, subst, arith, append-nil}
use Rattle.std.specs.Prelude.{IfSome, option_to_list, vec_capacity}
use Rattle.std.specs.Global.{Vec}
use Rattle.atomic_table.specs.Seated.{TableId}
use Rattle.hand_register.specs.declared.known.Record.{Record}
use Rattle.log_berth.specs.Standing.{Standing, AreBack, fresh}
use Rattle.pass_calls.specs.log_service.declared.seats.LogSeat.{LogSeat}
use Rattle.pass_calls.specs.log_service.Places.{ServiceId, IsSeatOf}
use Rattle.region_model.specs.Lines.{Line}
use Rattle.pass_calls.specs.region_lock.declared.pass.RegionPass.{RegionPass}
use Rattle.pass_calls.specs.region_lock.declared.naming.LockNaming.{Ghosts}
use Rattle.pass_calls.specs.region_lock.Parts.{AreCalledBelow}
use Rattle.region_calls.specs.declared.pass.Pass.{Pass}
use Rattle.region_calls.specs.Hands.{Deal, deal_of, AreDeals}
use Rattle.region_calls.specs.Named.{AreFrom}
use Rattle.region_calls.specs.Passes.{IsNewHand, AreNewHands, IsHandOf, IsPassOf}
use Rattle.region_calls.specs.Deals.{AreSeatsOf, AreRooms, AllOf}

pub seat_more : (place : ServiceId) (ss : List LogSeat) (s : LogSeat) → AreSeatsOf place ss → IsSeatOf place s → AreSeatsOf place (ss ++ s ∷ [])
seat_more place [] s a b = (b, tt)
seat_more place (x ∷ xs) s a b = (a.0, seat_more place xs s a.1 b)

seat_less : (place : ServiceId) (ss : List LogSeat) (s : LogSeat) → AreSeatsOf place (ss ++ s ∷ []) → AreSeatsOf place ss × IsSeatOf place s
seat_less place [] s a = (tt, a.0)
seat_less place (x ∷ xs) s a = let r = seat_less place xs s a.1 in ((a.0, r.0), r.1)

pub seat_popped : (place : ServiceId) (old new : List LogSeat) (r : Option LogSeat) → old ≡ new ++ option_to_list r → AreSeatsOf place old → AreSeatsOf place new × IfSome r (λ s. IsSeatOf place s)
seat_popped place old new None e a = (subst (λ (l : List LogSeat). AreSeatsOf place l) (e ∙ append-nil new) a, tt)
seat_popped place old new (Some s) e a = seat_less place new s (subst (λ (l : List LogSeat). AreSeatsOf place l) e a)

pub back_less : (id : TableId) (ss : List Standing) (s : Standing) → AreBack id (ss ++ s ∷ []) → AreBack id ss × ((s.berth ≡ id) × (s.knows.turn ≡ false))
back_less id [] s a = (tt, a.0)
back_less id (x ∷ xs) s a = let r = back_less id xs s a.1 in ((a.0, r.0), r.1)

pub back_replicate : (n : ℕ) (id : TableId) (numbers : List ℕ) → AreBack id (replicate n (fresh id numbers))
back_replicate zero id numbers = tt
back_replicate (suc n) id numbers = ((refl, refl), back_replicate n id numbers)

pub same_of : {A : Type 0} → (x y : A) → Some x ≡ Some y → x ≡ y
same_of x y e = cc e

pub get_push : {A : Type 0} → (xs : List A) (y : A) (k : ℕ) (z : A) → slice_get (xs ++ y ∷ []) k ≡ Some z → (slice_get xs k ≡ Some z) ⊎ ((k ≡ length xs) × (y ≡ z))
get_push [] y zero z e = inr (refl, same_of y z e)
get_push [] y (suc k) z e = absurd (cc e)
get_push (x ∷ xs) y zero z e = inl e
get_push (x ∷ xs) y (suc k) z e = elim (get_push xs y k z e) as (λ _. (slice_get xs k ≡ Some z) ⊎ ((suc k ≡ suc (length xs)) × (y ≡ z))) [
  | inl was ↦ inl was
  | inr (at, is) ↦ inr (ap suc at, is)
]

pub deals_more : (next left : ℕ) (ds : List Deal) (d : Deal) → AreDeals next left ds → d ≡ deal_of (length ds + 1) next left → AreDeals next left (ds ++ d ∷ [])
deals_more next left ds d a is k e at = elim (get_push ds d k e at) as (λ _. e ≡ deal_of (k + 1) next left) [
  | inl was ↦ a k e was
  | inr (here, same) ↦ sym same ∙ is ∙ ap (λ n. deal_of (n + 1) next left) (sym here)
]

pub from_more : (r : ℕ) (xs : List ℕ) (x : ℕ) → AreFrom r xs → x ≡ r + length xs → AreFrom r (xs ++ x ∷ [])
from_more r [] x a e = (omega (arith, e), tt)
from_more r (y ∷ ys) x a e = (a.0, from_more (r + 1) ys x a.1 (omega (arith, e)))

module _ {N : Type 0} {g : Ghosts N} where
  pub hands_more : (h : ℕ) (ps : List (RegionPass N g)) (p : RegionPass N g) → AreNewHands h ps → IsNewHand (length ps + 1) h p → AreNewHands h (ps ++ p ∷ [])
  hands_more h ps p a is k q at = elim (get_push ps p k q at) as (λ _. IsNewHand (k + 1) h q) [
    | inl was ↦ a k q was
    | inr (here, same) ↦ subst (λ (t : RegionPass N g). IsNewHand (k + 1) h t) same (subst (λ n. IsNewHand (n + 1) h p) (sym here) is)
  ]

  pub new_hand : (r h : ℕ) (p : RegionPass N g) → IsNewHand r h p → IsHandOf h 0 r p
  new_hand r h p is = record {
    region = is.region;
    number = is.number;
    mark = ap (λ (t : Record Line). t.mark) is.own;
    called = subst (λ (l : List Line). AreCalledBelow 1 l) (sym (ap (λ (t : Record Line). t.list) is.own)) none;
  }
    where
      none : AreCalledBelow 1 []
      none x (k, low, at) = absurd (omega (arith, low))

  pub rooms_more : (n : ℕ) (vs : List (Vec (RegionPass N g))) (v : Vec (RegionPass N g)) → AreRooms n vs → v.items ≡ [] → n ≤ vec_capacity v → AreRooms n (vs ++ v ∷ [])
  rooms_more n [] v a b c = ((b, c), tt)
  rooms_more n (x ∷ xs) v a b c = (a.0, rooms_more n xs v a.1 b c)

  pub rooms_less : (n : ℕ) (vs : List (Vec (RegionPass N g))) (v : Vec (RegionPass N g)) → AreRooms n (vs ++ v ∷ []) → AreRooms n vs × ((v.items ≡ []) × (n ≤ vec_capacity v))
  rooms_less n [] v a = (tt, a.0)
  rooms_less n (x ∷ xs) v a = let r = rooms_less n xs v a.1 in ((a.0, r.0), r.1)

  pub all_more : (place : ServiceId) (ps : List (Pass N g)) (p : Pass N g) → AllOf place ps → IsPassOf place p → AllOf place (ps ++ p ∷ [])
  all_more place [] p a b = (b, tt)
  all_more place (x ∷ xs) p a b = (a.0, all_more place xs p a.1 b)
