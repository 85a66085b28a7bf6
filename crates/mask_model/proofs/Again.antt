-- What is shown of what is shown is the same, in any rows.
use Rattle.std.proofs.Common.{◌≡◌, ◌&&◌, ◌||◌, ◌==◌, not, Bool, true, zero, suc, cond, List, [], ◌∷◌, filter, Contains, refl, sym, ap, ◌∙◌, subst, arith, inl, inr}
use Rattle.std.specs.List.{list_any}
use Rattle.std.proofs.lemmas.Bool.{and_parts, and_from, or_cases, eqb-true, false_from_ne_true, true≢false, cases_Bool, not_from_false, not-true}
use Rattle.std.proofs.lemmas.List.Elements.{All-contains, All-contains_itself, All-filter, filter_passes, Contains-append_right}
use Rattle.cell_model.specs.Order.{NumberedCell}
use Rattle.mask_model.specs.Masked.{same, in_family, in_column, by_delete_family, by_delete_family_version, by_delete_column, by_delete, masks, hides, is_shown, shown, first_versions, masked, IsOfRows, ReadersSeeTheSame}
use Rattle.mask_model.proofs.Passing.{some_there, is_there, same_bool}

kept : (p : NumberedCell → Bool) (xs : List NumberedCell) (y : NumberedCell) → Contains (filter p xs) y → Contains xs y
kept p xs y is = All-contains (Contains xs) (filter p xs) y (All-filter p (Contains xs) xs (All-contains_itself xs)) is

passed : (p : NumberedCell → Bool) (xs : List NumberedCell) (y : NumberedCell) → Contains (filter p xs) y → p y ≡ true
passed p xs y is = All-contains (λ x. p x ≡ true) (filter p xs) y (filter_passes p xs) is

has : (p : NumberedCell → Bool) (xs : List NumberedCell) (y : NumberedCell) → Contains xs y → p y ≡ true → Contains (filter p xs) y
has p [] y is e = is
has p (x ∷ xs) y (zero, lt, s) e = subst (λ b. Contains (cond b (x ∷ filter p xs) (filter p xs)) y) (sym (subst (λ z. p z ≡ true) (sym s) e)) (0, omega arith, s)
has p (x ∷ xs) y (suc k, lt, s) e =
    let rest = has p xs y (k, omega (arith, lt), s) e in
    elim (cases_Bool (p x)) [
      | inl t ↦ subst (λ b. Contains (cond b (x ∷ filter p xs) (filter p xs)) y) (sym t) (Contains-append_right (x ∷ []) (filter p xs) y rest)
      | inr f ↦ subst (λ b. Contains (cond b (x ∷ filter p xs) (filter p xs)) y) (sym f) rest
    ]

-- tests that agree on the members keep the same
agree_on : (p q : NumberedCell → Bool) (xs : List NumberedCell) → ((x : NumberedCell) → Contains xs x → p x ≡ q x) → filter p xs ≡ filter q xs
agree_on p q [] agree = refl
agree_on p q (x ∷ xs) agree =
    ap (λ b. cond b (x ∷ filter p xs) (filter p xs)) (agree x (0, omega arith, refl))
    ∙ ap (λ l. cond (q x) (x ∷ l) l) (agree_on p q xs (λ y is. agree y (Contains-append_right (x ∷ []) xs y is)))

swapped : (p q : NumberedCell → Bool) (xs : List NumberedCell) → filter p (filter q xs) ≡ filter q (filter p xs)
swapped p q [] = refl
swapped p q (x ∷ xs) =
    let rest = swapped p q xs in
    elim (cases_Bool (p x)) [
      | inl t ↦ elim (cases_Bool (q x)) [
        | inl u ↦ ap (λ b. filter p (cond b (x ∷ filter q xs) (filter q xs))) u ∙ ap (λ b. cond b (x ∷ filter p (filter q xs)) (filter p (filter q xs))) t ∙ ap (λ l. x ∷ l) rest
            ∙ sym (ap (λ b. cond b (x ∷ filter q (filter p xs)) (filter q (filter p xs))) u) ∙ sym (ap (λ b. filter q (cond b (x ∷ filter p xs) (filter p xs))) t)
        | inr u ↦ ap (λ b. filter p (cond b (x ∷ filter q xs) (filter q xs))) u ∙ rest
            ∙ sym (ap (λ b. cond b (x ∷ filter q (filter p xs)) (filter q (filter p xs))) u) ∙ sym (ap (λ b. filter q (cond b (x ∷ filter p xs) (filter p xs))) t)
      ]
      | inr t ↦ elim (cases_Bool (q x)) [
        | inl u ↦ ap (λ b. filter p (cond b (x ∷ filter q xs) (filter q xs))) u ∙ ap (λ b. cond b (x ∷ filter p (filter q xs)) (filter p (filter q xs))) t ∙ rest
            ∙ sym (ap (λ b. filter q (cond b (x ∷ filter p xs) (filter p xs))) t)
        | inr u ↦ ap (λ b. filter p (cond b (x ∷ filter q xs) (filter q xs))) u ∙ rest ∙ sym (ap (λ b. filter q (cond b (x ∷ filter p xs) (filter p xs))) t)
      ]
    ]

-- a test that only members of a part pass passes some of all where it passes some of the part
any_in : (f q : NumberedCell → Bool) (xs : List NumberedCell) → ((x : NumberedCell) → Contains xs x → f x ≡ true → q x ≡ true) → list_any f (filter q xs) ≡ list_any f xs
any_in f q xs only = same_bool (list_any f (filter q xs)) (list_any f xs)
    (λ e. let x = some_there f (filter q xs) e in is_there f xs x.0 (kept q xs x.0 x.1) x.2)
    (λ e. let x = some_there f xs e in is_there f (filter q xs) x.0 (has q xs x.0 x.1 (only x.0 x.1 x.2)) x.2)

-- ---- what masks and hides is of the row

row_of_family : (d p : NumberedCell) → in_family d.1 p.1 ≡ true → same d.1.row p.1.row ≡ true
row_of_family d p e = (and_parts (same d.1.row p.1.row) (same d.1.family p.1.family) e).0

row_of_column : (d p : NumberedCell) → in_column d.1 p.1 ≡ true → same d.1.row p.1.row ≡ true
row_of_column d p e = row_of_family d p (and_parts (in_family d.1 p.1) (same d.1.qualifier p.1.qualifier) e).0

masks_row : (d p : NumberedCell) → masks d.1 p.1 ≡ true → same d.1.row p.1.row ≡ true
masks_row d p e = elim (or_cases (by_delete_family d.1 p.1) (by_delete_family_version d.1 p.1 || (by_delete_column d.1 p.1 || by_delete d.1 p.1)) e) [
  | inl a ↦ row_of_family d p (and_parts (in_family d.1 p.1) _ (and_parts (d.1.kind == 14) _ a).1).0
  | inr e ↦ elim (or_cases (by_delete_family_version d.1 p.1) (by_delete_column d.1 p.1 || by_delete d.1 p.1) e) [
    | inl a ↦ row_of_family d p (and_parts (in_family d.1 p.1) _ (and_parts (d.1.kind == 10) _ a).1).0
    | inr e ↦ elim (or_cases (by_delete_column d.1 p.1) (by_delete d.1 p.1) e) [
      | inl a ↦ row_of_column d p (and_parts (in_column d.1 p.1) _ (and_parts (d.1.kind == 12) _ a).1).0
      | inr a ↦ row_of_column d p (and_parts (in_column d.1 p.1) _ (and_parts (d.1.kind == 8) _ a).1).0
    ]
  ]
]

hides_row : (q p : NumberedCell) → hides q p ≡ true → same q.1.row p.1.row ≡ true
hides_row q p e = row_of_column q p (and_parts (in_column q.1 p.1) _ (and_parts (q.1.kind == 4) _ e).1).0

-- what is shown of the cells of some rows is what is shown in these rows
shown_in_rows : (in_rows : NumberedCell → Bool) (cells : List NumberedCell) → IsOfRows in_rows → shown (filter in_rows cells) ≡ filter in_rows (shown cells)
shown_in_rows in_rows cells of = agree_on (is_shown (filter in_rows cells)) (is_shown cells) (filter in_rows cells) alike ∙ swapped (is_shown cells) in_rows cells
  where
    alike : (p : NumberedCell) → Contains (filter in_rows cells) p → is_shown (filter in_rows cells) p ≡ is_shown cells p
    alike p is =
        let there = passed in_rows cells p is in
        let a = any_in (λ d. masks d.1 p.1) in_rows cells (λ d member e. of d p (masks_row d p e) ∙ there) in
        let b = any_in (λ q. hides q p) in_rows cells (λ q member e. of q p (hides_row q p e) ∙ there) in
        (λ i. p.1.kind == 4 && (not (a i) && not (b i)))

-- a put masks nothing
no_delete : (d p : NumberedCell) → d.1.kind ≡ 4 → masks d.1 p.1 ≡ true → ⊥
no_delete d p put e = elim (or_cases (by_delete_family d.1 p.1) (by_delete_family_version d.1 p.1 || (by_delete_column d.1 p.1 || by_delete d.1 p.1)) e) [
  | inl a ↦ omega (arith, put, eqb-true d.1.kind 14 (and_parts (d.1.kind == 14) _ a).0)
  | inr e ↦ elim (or_cases (by_delete_family_version d.1 p.1) (by_delete_column d.1 p.1 || by_delete d.1 p.1) e) [
    | inl a ↦ omega (arith, put, eqb-true d.1.kind 10 (and_parts (d.1.kind == 10) _ a).0)
    | inr e ↦ elim (or_cases (by_delete_column d.1 p.1) (by_delete d.1 p.1) e) [
      | inl a ↦ omega (arith, put, eqb-true d.1.kind 12 (and_parts (d.1.kind == 12) _ a).0)
      | inr a ↦ omega (arith, put, eqb-true d.1.kind 8 (and_parts (d.1.kind == 8) _ a).0)
    ]
  ]
]

all_kept : (p : NumberedCell → Bool) (xs : List NumberedCell) → ((x : NumberedCell) → Contains xs x → p x ≡ true) → filter p xs ≡ xs
all_kept p [] all = refl
all_kept p (x ∷ xs) all = ap (λ b. cond b (x ∷ filter p xs) (filter p xs)) (all x (0, omega arith, refl)) ∙ ap (λ l. x ∷ l) (all_kept p xs (λ y is. all y (Contains-append_right (x ∷ []) xs y is)))

-- what is shown stays shown
shown_again : (cells : List NumberedCell) → shown (shown cells) ≡ shown cells
shown_again cells = all_kept (is_shown (shown cells)) (shown cells) stays
  where
    stays : (p : NumberedCell) → Contains (shown cells) p → is_shown (shown cells) p ≡ true
    stays p is =
        let here = and_parts (p.1.kind == 4) _ (passed (is_shown cells) cells p is) in
        let free = and_parts (not (list_any (λ d. masks d.1 p.1) cells)) (not (list_any (λ q. hides q p) cells)) here.1 in
        and_from (p.1.kind == 4) _ here.0 (and_from (not (list_any (λ d. masks d.1 p.1) (shown cells))) _
        (not_from_false (list_any (λ d. masks d.1 p.1) (shown cells)) (false_from_ne_true (list_any (λ d. masks d.1 p.1) (shown cells)) (λ e.
        let d = some_there (λ d. masks d.1 p.1) (shown cells) e in
        no_delete d.0 p (eqb-true d.0.1.kind 4 (and_parts (d.0.1.kind == 4) _ (passed (is_shown cells) cells d.0 d.1)).0) d.2)))
        (not_from_false (list_any (λ q. hides q p) (shown cells)) (false_from_ne_true (list_any (λ q. hides q p) (shown cells)) (λ e.
        let q = some_there (λ q. hides q p) (shown cells) e in
        true≢false (sym (is_there (λ q. hides q p) cells q.0 (kept (is_shown cells) cells q.0 q.1) q.2) ∙ not-true (list_any (λ q. hides q p) cells) free.1)))))

pub readers_see_the_same : ReadersSeeTheSame
unfolding masked
readers_see_the_same in_rows versions cells of =
    ap (first_versions versions []) (ap shown (sym (shown_in_rows in_rows cells of)) ∙ shown_again (filter in_rows cells))
