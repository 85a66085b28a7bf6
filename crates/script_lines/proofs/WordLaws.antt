-- Numbers and tokens, a step at a time.
use Rattle.std.proofs.Common.{◌≡◌, ℕ, suc, ◌+◌, ◌*◌, ◌-◌, ◌^◌, ◌<◌, ◌≤◌, Bool, true, false, ◌&&◌, List, [], ◌∷◌, ◌++◌, length, take, drop, get_or, Option, Some, None, refl, sym, ap, ◌∙◌, arith, nat_eq, append_assoc}
use Rattle.std.specs.Option.{option_map}
use Rattle.std.specs.List.{list_all}
use Rattle.std.proofs.lemmas.Bool.{le-ltb}
use Rattle.std.proofs.lemmas.Bool.Decides.{nat_tests}
use Rattle.std.proofs.lemmas.List.{take-append-drop, take_more}
use Rattle.std.proofs.lemmas.List.Folds.{list_all_at, list_all_more}
use Rattle.script_model.specs.Text.{value_from, is_digit, is_number, is_plain, unescaped}

-- ---- numbers
pub value_from-append : (n : ℕ) (xs ys : List ℕ) → value_from n (xs ++ ys) ≡ value_from (value_from n xs) ys
value_from-append n [] ys = refl
value_from-append n (x ∷ xs) ys = value_from-append (10 * n + (x - 48)) xs ys

pub value_from-ge : (n : ℕ) (xs : List ℕ) → n ≤ value_from n xs
value_from-ge n [] = omega arith
value_from-ge n (x ∷ xs) = omega (arith, value_from-ge (10 * n + (x - 48)) xs)

pub value_more : (w : List ℕ) (i : ℕ) → i < length w → value_from 0 (take (i + 1) w) ≡ 10 * value_from 0 (take i w) + (get_or w i 0 - 48)
value_more w i lt = ap (value_from 0) (take_more w i 0 lt) ∙ value_from-append 0 (take i w) (get_or w i 0 ∷ [])

pub digits_more : (w : List ℕ) (i : ℕ) → i < length w → list_all is_digit (take i w) ≡ true → 48 ≤ get_or w i 0 → get_or w i 0 ≤ 57 → list_all is_digit (take (i + 1) w) ≡ true
digits_more w i lt all low high = list_all_more is_digit w i 0 lt ∙ rw all (grind (arith, nat_tests))

and_false : (a b : Bool) → ((a && false) && b) ≡ false
and_false true b = refl
and_false false b = refl

and_false_last : (a : Bool) → (a && false) ≡ false
and_false_last true = refl
and_false_last false = refl

pub not_digit_low : (w : List ℕ) (i : ℕ) → i < length w → get_or w i 0 < 48 → is_number w ≡ false
not_digit_low w i lt low = let no : is_digit (get_or w i 0) ≡ false = grind (arith, nat_tests) in rw (list_all_at is_digit w i 0 lt no) (and_false _ _)

pub not_digit_high : (w : List ℕ) (i : ℕ) → i < length w → 57 < get_or w i 0 → is_number w ≡ false
not_digit_high w i lt high = let no : is_digit (get_or w i 0) ≡ false = grind (arith, nat_tests) in rw (list_all_at is_digit w i 0 lt no) (and_false _ _)

pub not_number_over : (w : List ℕ) (i : ℕ) → 2 ^ 64 ≤ value_from 0 (take i w) → is_number w ≡ false
not_number_over w i over =
    let whole : value_from 0 w ≡ value_from (value_from 0 (take i w)) (drop i w) = sym (ap (value_from 0) (take-append-drop i w)) ∙ value_from-append 0 (take i w) (drop i w) in
    let le : 2 ^ 64 ≤ value_from 0 w = omega (arith, whole, value_from-ge (value_from 0 (take i w)) (drop i w)) in
    rw (le-ltb _ _ le) (and_false_last _)

pub ruleset number_steps = (value_more, digits_more, not_digit_low, not_digit_high, not_number_over)

-- ---- tokens
pub unescaped_plain : (b : ℕ) (bs : List ℕ) → is_plain b ≡ true → unescaped (b ∷ bs) ≡ option_map (λ (t : List ℕ). b ∷ t) (unescaped bs)
unescaped_plain b [] e = rw e refl
unescaped_plain b (c ∷ []) e = rw e refl
unescaped_plain b (c ∷ d ∷ bs) e =
    let ne : nat_eq b 37 ≡ false = grind (arith, nat_tests, e) in
    rw (e, ne) refl

pub first_plain : (bs : List ℕ) → 0 < length bs → is_plain (get_or bs 0 0) ≡ true → unescaped bs ≡ option_map (λ (t : List ℕ). get_or bs 0 0 ∷ t) (unescaped (drop 1 bs))
first_plain [] lt e = absurd omega arith
first_plain (b ∷ bs) lt e = unescaped_plain b bs e

-- where each byte stands for itself, the bytes are those of the word
pub plain_word : (bs : List ℕ) → ((k : ℕ) → k < length bs → is_plain (get_or bs k 0) ≡ true) → unescaped bs ≡ Some bs
plain_word [] all = refl
plain_word (b ∷ bs) all = unescaped_plain b bs (all 0 (omega arith)) ∙ ap (option_map (λ (t : List ℕ). b ∷ t)) (plain_word bs (λ k h. all (suc k) (omega arith)))

-- one byte more
pub prepend_more : (acc : List ℕ) (b : ℕ) (o : Option (List ℕ)) → option_map (λ (t : List ℕ). acc ++ t) (option_map (λ (t : List ℕ). b ∷ t) o) ≡ option_map (λ (t : List ℕ). (acc ++ b ∷ []) ++ t) o
prepend_more acc b None = refl
prepend_more acc b (Some t) = ap Some (sym (append_assoc acc (b ∷ []) t))

pub unescaped_more : (word acc new rest behind : List ℕ) (b n : ℕ) → unescaped word ≡ option_map (λ (t : List ℕ). acc ++ t) (unescaped rest)
    → unescaped rest ≡ option_map (λ (t : List ℕ). b ∷ t) (unescaped (drop n rest)) → new ≡ acc ++ b ∷ [] → behind ≡ drop n rest
    → unescaped word ≡ option_map (λ (t : List ℕ). new ++ t) (unescaped behind)
unescaped_more word acc new rest behind b n told step e at =
    told ∙ (λ i. option_map (λ (t : List ℕ). acc ++ t) (step i)) ∙ prepend_more acc b (unescaped (drop n rest)) ∙ (λ i. option_map (λ (t : List ℕ). sym e i ++ t) (unescaped (sym at i)))
