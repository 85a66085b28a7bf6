-- The beginning of chains in order is in order.
use Rattle.std.proofs.Common.{◌≡◌, ℕ, List, [], ◌∷◌, ◌++◌, length, refl, sym, ap, ◌∙◌, subst, append_assoc}
use Rattle.log_trucks.specs.Held.{Held}
use Rattle.append_ring.specs.Rules.{base_of}
use Rattle.log_halves.specs.Trucks.{onward, FollowOn}
use Rattle.log_halves.specs.Chains.{all_trucks, AreInOrder}

pub follow_front : (n : ℕ) (last : ℕ → ℕ) (xs ys : List Held) → FollowOn n last (xs ++ ys) → FollowOn n last xs
follow_front n last [] ys f = tt
follow_front n last (t ∷ ts) ys f = (f.0, follow_front n (onward last t) ts ys f.1)

pub all_append : (xs ys : List (List Held)) → all_trucks (xs ++ ys) ≡ all_trucks xs ++ all_trucks ys
all_append [] ys = refl
all_append (l ∷ ls) ys = ap (λ ts. l ++ ts) (all_append ls ys) ∙ sym (append_assoc (l) (all_trucks ls) (all_trucks ys))

pub front_in_order : (lasts : List ℕ) (xs ys : List (List Held)) → AreInOrder lasts (xs ++ ys) → AreInOrder lasts xs
front_in_order lasts xs ys f = follow_front (length lasts) (base_of lasts) (all_trucks xs) (all_trucks ys) (subst (FollowOn (length lasts) (base_of lasts)) (all_append xs ys) f)
