-- Entries with their places in a log.
use Rattle.std.proofs.Common.{◌≡◌, ℕ, zero, suc, ◌+◌, ◌<◌, List, [], ◌∷◌, ◌++◌, length, take, drop, get_or, refl, sym, ap, ◌∙◌, arith}
use Rattle.std.proofs.lemmas.List.{take-append-drop}
use Rattle.log_model.specs.Entry.{Entry}
use Rattle.chronicle_model.specs.Chronicle.{Placed}
use Rattle.log_tail.specs.Reads.{placed_behind}

pub placed_append : (f n : ℕ) (xs ys : List Entry) → placed_behind f n (xs ++ ys) ≡ placed_behind f n xs ++ placed_behind f (n + length xs) ys
placed_append f n [] ys = let e : n ≡ n + 0 = omega arith in ap (λ (m : ℕ). placed_behind f m ys) e
placed_append f n (x ∷ xs) ys =
    let e : (n + 1) + length xs ≡ n + suc (length xs) = omega arith in
    ap (λ (l : List Placed). record { file = f; place = n + 1; entry = x } ∷ l)
    (placed_append f (n + 1) xs ys ∙ ap (λ (m : ℕ). placed_behind f (n + 1) xs ++ placed_behind f m ys) e)

pub placed_length : (f n : ℕ) (xs : List Entry) → length (placed_behind f n xs) ≡ length xs
placed_length f n [] = refl
placed_length f n (x ∷ xs) = ap suc (placed_length f (n + 1) xs)

take_next : (xs : List Entry) (j : ℕ) (x : Entry) → j < length xs → x ≡ get_or xs j x → take (suc j) xs ≡ take j xs ++ x ∷ []
take_next [] j x p is = absurd (omega arith)
take_next (y ∷ ys) zero x p is = λ i. sym is i ∷ []
take_next (y ∷ ys) (suc j) x p is = λ i. y ∷ take_next ys j x (omega arith) is i

take_length : (xs : List Entry) (j : ℕ) → j < length xs → length (take j xs) ≡ j
take_length [] j p = absurd (omega arith)
take_length (y ∷ ys) zero p = refl
take_length (y ∷ ys) (suc j) p = ap suc (take_length ys j (omega arith))

-- one entry more
pub placed_next : (f n : ℕ) (xs : List Entry) (j place : ℕ) (x : Entry) → j < length xs → x ≡ get_or xs j x → place ≡ n + j + 1
    → placed_behind f n (take (j + 1) xs) ≡ placed_behind f n (take j xs) ++ record { file = f; place = place; entry = x } ∷ []
placed_next f n xs j place x p is at =
    let more : j + 1 ≡ suc j = omega arith in
    let len : n + length (take j xs) + 1 ≡ place = omega (arith, take_length xs j p, at) in
    ap (λ (k : ℕ). placed_behind f n (take k xs)) more ∙ ap (placed_behind f n) (take_next xs j x p is) ∙ placed_append f n (take j xs) (x ∷ [])
    ∙ ap (λ (m : ℕ). placed_behind f n (take j xs) ++ record { file = f; place = m; entry = x } ∷ []) len

-- and those after it
pub placed_split : (f n : ℕ) (xs : List Entry) (j : ℕ) → placed_behind f n xs ≡ placed_behind f n (take j xs) ++ placed_behind f (n + length (take j xs)) (drop j xs)
placed_split f n xs j = ap (placed_behind f n) (sym (take-append-drop j xs)) ∙ placed_append f n (take j xs) (drop j xs)
