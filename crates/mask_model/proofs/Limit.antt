-- As many versions as there are cells are all that is shown; and the first versions of a list that grows at its end.
use Rattle.std.proofs.Common.{◌≡◌, ℕ, ◌+◌, ◌≤◌, nat_lt, Bool, true, false, cond, List, [], ◌∷◌, ◌++◌, length, filter, refl, sym, ap, ◌∙◌, subst, arith, inl, inr}
use Rattle.std.specs.Prelude.{if◌then◌else◌}
use Rattle.std.proofs.lemmas.Bool.{lt-ltb, cases_Bool}
use Rattle.std.proofs.lemmas.List.{length-append}
use Rattle.cell_model.specs.Order.{NumberedCell}
use Rattle.mask_model.specs.Masked.{in_column, is_shown, shown, count_in_column, first_versions, masked, HasNoLimit}

behind_none : (xs : List NumberedCell) → xs ++ [] ≡ xs
behind_none [] = refl
behind_none (x ∷ xs) = ap (λ l. x ∷ l) (behind_none xs)

regrouped : (xs ys zs : List NumberedCell) → (xs ++ ys) ++ zs ≡ xs ++ (ys ++ zs)
regrouped [] ys zs = refl
regrouped (x ∷ xs) ys zs = ap (λ l. x ∷ l) (regrouped xs ys zs)

at_end : (b : Bool) (x : NumberedCell) → (if b then x ∷ [] else []) ≡ cond b (x ∷ []) []
at_end true x = refl
at_end false x = refl

goes_on : (b : Bool) (y : NumberedCell) (xs ys : List NumberedCell) → (if b then y ∷ (xs ++ ys) else xs ++ ys) ≡ (if b then y ∷ xs else xs) ++ ys
goes_on true y xs ys = refl
goes_on false y xs ys = refl

-- a cell more is one version more where it is wanted
pub first_versions_more : (v : ℕ) (before xs : List NumberedCell) (x : NumberedCell)
    → first_versions v before (xs ++ x ∷ []) ≡ first_versions v before xs ++ cond (nat_lt (count_in_column x (before ++ xs)) v) (x ∷ []) []
first_versions_more v before [] x = at_end (nat_lt (count_in_column x before) v) x ∙ ap (λ l. cond (nat_lt (count_in_column x l) v) (x ∷ []) []) (sym (behind_none before))
first_versions_more v before (y ∷ ys) x =
    let rest = first_versions_more v (before ++ y ∷ []) ys x ∙ ap (λ l. first_versions v (before ++ y ∷ []) ys ++ cond (nat_lt (count_in_column x l) v) (x ∷ []) []) (regrouped before (y ∷ []) ys) in
    ap (λ l. if nat_lt (count_in_column y before) v then y ∷ l else l) rest
    ∙ goes_on (nat_lt (count_in_column y before) v) y (first_versions v (before ++ y ∷ []) ys) (cond (nat_lt (count_in_column x (before ++ y ∷ ys)) v) (x ∷ []) [])

fewer : (p : NumberedCell → Bool) (xs : List NumberedCell) → length (filter p xs) ≤ length xs
fewer p [] = omega arith
fewer p (x ∷ xs) = elim (cases_Bool (p x)) [
  | inl t ↦ subst (λ b. length (cond b (x ∷ filter p xs) (filter p xs)) ≤ length (x ∷ xs)) (sym t) (omega (arith, fewer p xs))
  | inr f ↦ subst (λ b. length (cond b (x ∷ filter p xs) (filter p xs)) ≤ length (x ∷ xs)) (sym f) (omega (arith, fewer p xs))
]

all_wanted : (v : ℕ) (before xs : List NumberedCell) → length before + length xs ≤ v → first_versions v before xs ≡ xs
all_wanted v before [] room = refl
all_wanted v before (x ∷ xs) room =
    let wanted = lt-ltb (count_in_column x before) v (omega (arith, room, fewer (λ y. in_column y.1 x.1) before)) in
    let longer : length (before ++ x ∷ []) ≡ length before + 1 = length-append before (x ∷ []) in
    ap (λ b. if b then x ∷ first_versions v (before ++ x ∷ []) xs else first_versions v (before ++ x ∷ []) xs) wanted
    ∙ ap (λ l. x ∷ l) (all_wanted v (before ++ x ∷ []) xs (omega (arith, room, longer)))

pub has_no_limit : HasNoLimit
unfolding masked
has_no_limit v cells room = all_wanted v [] (shown cells) (omega (arith, room, fewer (is_shown cells) cells))
