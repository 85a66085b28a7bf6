-- Numbers that are out, each another, for the tests.
use Rattle.std.proofs.Common.{◌≡◌, ℕ, zero, suc, ◌+◌, ◌-◌, ◌<◌, List, [], ◌∷◌, ◌++◌, length, set, take, drop, slice_get, Bool, true, false, Some, refl, sym, ap, subst, arith, append_assoc}
use Rattle.std.proofs.lemmas.List.{append-nil, take-append-drop}
use Rattle.std.proofs.lemmas.Option.{slice_get_within}
use Rattle.write_queue.specs.Numbers.{Numbers, IsOut, last_begun, begun, with_completed}
use Rattle.write_queue.specs.Flights.{Differ, AreOut}

differ_end : (n x : ℕ) (ms : List ℕ) → Differ n ms → (n ≡ x → ⊥) → Differ n (ms ++ x ∷ [])
differ_end n x [] d ne = (ne, tt)
differ_end n x (m ∷ ms) d ne = (d.0, differ_end n x ms d.1 ne)

out_end : (q : Numbers) (x : ℕ) (ns : List ℕ) → AreOut q ns → IsOut q x → Differ x ns → AreOut q (ns ++ x ∷ [])
out_end q x [] all here d = (here, tt, tt)
out_end q x (n ∷ ns) all here d = (all.0, differ_end n x ns all.1 (λ e. d.0 (sym e)), out_end q x ns all.2 here d.1)

-- the first ones go after the others
pub out_turned : (q : Numbers) (xs ys : List ℕ) → AreOut q (xs ++ ys) → AreOut q (ys ++ xs)
out_turned q [] ys all = subst (AreOut q) (sym (append-nil ys)) all
out_turned q (x ∷ xs) ys all =
    let last = out_end q x (xs ++ ys) all.2 all.0 all.1 in
    subst (AreOut q) (append_assoc ys (x ∷ []) xs) (out_turned q xs (ys ++ x ∷ []) (subst (AreOut q) (append_assoc xs ys (x ∷ [])) last))

pub out_rotated : (q : Numbers) (k : ℕ) (ns ms : List ℕ) → ms ≡ drop k ns ++ take k ns → AreOut q ns → AreOut q ms
out_rotated q k ns ms e all = subst (AreOut q) (sym e) (out_turned q (take k ns) (drop k ns) (subst (AreOut q) (sym (take-append-drop k ns)) all))

get_append : (xs ys : List Bool) (i : ℕ) (d : Bool) → slice_get xs i ≡ Some d → slice_get (xs ++ ys) i ≡ Some d
get_append [] ys i d e = absurd (cc e)
get_append (x ∷ xs) ys zero d e = e
get_append (x ∷ xs) ys (suc i) d e = get_append xs ys i d e

get_end : (xs : List Bool) (d : Bool) (i : ℕ) → i ≡ length xs → slice_get (xs ++ d ∷ []) i ≡ Some d
get_end [] d zero e = refl
get_end [] d (suc i) e = absurd (omega arith)
get_end (x ∷ xs) d zero e = absurd (omega arith)
get_end (x ∷ xs) d (suc i) e = get_end xs d i (omega arith)

get_other : (xs : List Bool) (i j : ℕ) (d e : Bool) → (i ≡ j → ⊥) → slice_get xs j ≡ Some e → slice_get (set xs i d) j ≡ Some e
get_other [] i j d e ne at = absurd (cc at)
get_other (x ∷ xs) zero zero d e ne at = absurd (ne refl)
get_other (x ∷ xs) zero (suc j) d e ne at = at
get_other (x ∷ xs) (suc i) zero d e ne at = at
get_other (x ∷ xs) (suc i) (suc j) d e ne at = get_other xs i j d e (λ q. ne (ap suc q)) at

still_out : (q : Numbers) (n : ℕ) → IsOut q n → IsOut (begun q) n
still_out q n out = (out.0, get_append q.done (false ∷ []) (n - q.last - 1) false out.1)

all_still : (q : Numbers) (ns : List ℕ) → AreOut q ns → AreOut (begun q) ns
all_still q [] all = tt
all_still q (n ∷ ns) all = (still_out q n all.0, all.1, all_still q ns all.2)

above_all : (q : Numbers) (x : ℕ) (ns : List ℕ) → last_begun q < x → AreOut q ns → Differ x ns
above_all q x [] lt all = tt
above_all q x (n ∷ ns) lt all =
    let in' = slice_get_within q.done (n - q.last - 1) false all.0.1 in let up : q.last < n = all.0.0 in
    ((λ e. absurd (omega arith)), above_all q x ns lt all.2)

-- one number more is out
pub out_begun : (q : Numbers) (x : ℕ) (ns : List ℕ) → x ≡ last_begun q + 1 → AreOut q ns → AreOut (begun q) (ns ++ x ∷ [])
out_begun q x ns e all = out_end (begun q) x ns (all_still q ns all) (omega arith, get_end q.done false (x - q.last - 1) (omega arith)) (above_all q x ns (omega arith) all)

rest_out : (q : Numbers) (n : ℕ) (ns : List ℕ) → q.last < n → Differ n ns → AreOut q ns → AreOut (with_completed q n) ns
rest_out q n [] up d all = tt
rest_out q n (m ∷ ns) up d all =
    let up' : q.last < m = all.0.0 in
    ((up', get_other q.done (n - q.last - 1) (m - q.last - 1) true false (λ e. d.0 (omega arith)) all.0.1), all.1, rest_out q n ns up d.1 all.2)

-- the first one is completed
pub out_completed : (q : Numbers) (n : ℕ) (ns : List ℕ) → AreOut q (n ∷ ns) → AreOut (with_completed q n) ns
out_completed q n ns all = rest_out q n ns all.0.0 all.1 all.2
