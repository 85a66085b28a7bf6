-- Trucks in a row, and what they take of a stage.
use Rattle.std.proofs.Common.{◌≡◌, ℕ, ◌+◌, List, [], ◌∷◌, ◌++◌, length, refl, ◌∙◌, arith}
use Rattle.log_trucks.specs.Held.{Held}
use Rattle.log_halves.specs.Trucks.{size_of, AreSpelled, FollowOn, onward, come_to}

pub size_append : (xs ys : List Held) → size_of (xs ++ ys) ≡ size_of xs + size_of ys
size_append [] ys = omega arith
size_append (t ∷ ts) ys = let more = size_append ts ys in omega (arith, more)

pub size_one_more : (xs : List Held) (t : Held) → size_of (xs ++ t ∷ []) ≡ size_of xs + length t.bytes + 1
size_one_more xs t = size_append xs (t ∷ []) ∙ (let one : size_of (t ∷ []) ≡ (length t.bytes + 1) + 0 = refl in omega (arith, one))

-- of the first and of the last
pub spelled_front : (xs ys : List Held) → AreSpelled (xs ++ ys) → AreSpelled xs
spelled_front [] ys s = tt
spelled_front (t ∷ ts) ys s = (s.0, spelled_front ts ys s.1)

pub spelled_back : (xs ys : List Held) → AreSpelled (xs ++ ys) → AreSpelled ys
spelled_back [] ys s = s
spelled_back (t ∷ ts) ys s = spelled_back ts ys s.1

pub spelled_both : (xs ys : List Held) → AreSpelled xs → AreSpelled ys → AreSpelled (xs ++ ys)
spelled_both [] ys s r = r
spelled_both (t ∷ ts) ys s r = (s.0, spelled_both ts ys s.1 r)

pub come_append : (last : ℕ → ℕ) (xs ys : List Held) → come_to last (xs ++ ys) ≡ come_to (come_to last xs) ys
come_append last [] ys = refl
come_append last (t ∷ ts) ys = come_append (onward last t) ts ys

pub follow_back : (n : ℕ) (last : ℕ → ℕ) (xs ys : List Held) → FollowOn n last (xs ++ ys) → FollowOn n (come_to last xs) ys
follow_back n last [] ys f = f
follow_back n last (t ∷ ts) ys f = follow_back n (onward last t) ts ys f.1

pub follow_both : (n : ℕ) (last : ℕ → ℕ) (xs ys : List Held) → FollowOn n last xs → FollowOn n (come_to last xs) ys → FollowOn n last (xs ++ ys)
follow_both n last [] ys f g = g
follow_both n last (t ∷ ts) ys f g = (f.0, follow_both n (onward last t) ts ys f.1 g)
