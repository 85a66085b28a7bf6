-- Lists of entries in order.
use Rattle.std.proofs.Common.{◌≡◌, zero, suc, ◌⊎◌, Bool, true, List, [], ◌∷◌, ◌++◌, filter, Contains, cond, refl, sym, ap, ◌∙◌, subst, arith, inl, inr, append-nil}
use Rattle.std.proofs.lemmas.Bool.{cases_Bool}
use Rattle.std.proofs.lemmas.List.Elements.{Contains-append_right, All-contains, All-contains_itself, All-filter}
use Rattle.cell_model.specs.Lists.{IsPrefix}
use Rattle.chronicle_model.specs.Chronicle.{Placed, ComesBefore, IsOrdered}

-- ---- members

pub no_member : (x : Placed) → Contains [] x → ⊥
no_member x is = omega (arith, is.1)

pub here : (x : Placed) (xs : List Placed) → Contains (x ∷ xs) x
here x xs = (0, omega arith, refl)

pub there : (y : Placed) (xs : List Placed) (x : Placed) → Contains xs x → Contains (y ∷ xs) x
there y xs x is = Contains-append_right (y ∷ []) xs x is

pub here_or_there : (y : Placed) (xs : List Placed) (x : Placed) → Contains (y ∷ xs) x → (y ≡ x) ⊎ Contains xs x
here_or_there y xs x (zero, lt, e) = inl e
here_or_there y xs x (suc k, lt, e) = inr (k, omega (arith, lt), e)

pub first_of_cons : (x y : Placed) (xs ys : List Placed) → x ∷ xs ≡ y ∷ ys → x ≡ y
first_of_cons x y xs ys e = cc

pub rest_of_cons : (x y : Placed) (xs ys : List Placed) → x ∷ xs ≡ y ∷ ys → xs ≡ ys
rest_of_cons x y xs ys e = cc

pub same_rest : (front xs ys : List Placed) → front ++ xs ≡ front ++ ys → xs ≡ ys
same_rest [] xs ys e = e
same_rest (x ∷ front) xs ys e = same_rest front xs ys (rest_of_cons x x (front ++ xs) (front ++ ys) e)

-- ---- the order

pub not_itself : (x : Placed) → ComesBefore x x → ⊥
not_itself x (inl lt) = omega (arith, lt)
not_itself x (inr both) = omega (arith, both.1)

pub not_both : (x y : Placed) → ComesBefore x y → ComesBefore y x → ⊥
not_both x y (inl lt) (inl gt) = omega (arith, lt, gt)
not_both x y (inl lt) (inr same) = omega (arith, lt, same.0)
not_both x y (inr same) (inl gt) = omega (arith, same.0, gt)
not_both x y (inr same) (inr other) = omega (arith, same.1, other.1)

-- in an ordered list each member of a front stands before each one after it
pub front_before : (front back : List Placed) (x y : Placed) → IsOrdered (front ++ back) → Contains front x → Contains back y → ComesBefore x y
front_before [] back x y o is behind = absurd (no_member x is)
front_before (a ∷ front) back x y o is behind = elim (here_or_there a front x is) as (λ _. ComesBefore x y) [
  | inl same ↦ subst (λ (z : Placed). ComesBefore z y) same (o.0 y (Contains-append_right front back y behind))
  | inr later ↦ front_before front back x y o.1 later behind
]

kept : (p : Placed → Bool) (xs : List Placed) (y : Placed) → Contains (filter p xs) y → Contains xs y
kept p xs y is = All-contains (Contains xs) (filter p xs) y (All-filter p (Contains xs) xs (All-contains_itself xs)) is

pub ordered_filter : (p : Placed → Bool) (xs : List Placed) → IsOrdered xs → IsOrdered (filter p xs)
ordered_filter p [] o = tt
ordered_filter p (x ∷ xs) o =
    let rest = ordered_filter p xs o.1 in
    elim (cases_Bool (p x)) [
      | inl e ↦ subst (λ b. IsOrdered (cond b (x ∷ filter p xs) (filter p xs))) (sym e) ((λ y is. o.0 y (kept p xs y is)), rest)
      | inr e ↦ subst (λ b. IsOrdered (cond b (x ∷ filter p xs) (filter p xs))) (sym e) rest
    ]

-- a filter that each member passes keeps the list
pub all_pass : (p : Placed → Bool) (xs : List Placed) → ((x : Placed) → Contains xs x → p x ≡ true) → filter p xs ≡ xs
all_pass p [] each = refl
all_pass p (x ∷ xs) each =
    let rest : filter p xs ≡ xs = all_pass p xs (λ y is. each y (there x xs y is)) in
    ap (λ b. cond b (x ∷ filter p xs) (filter p xs)) (each x (here x xs)) ∙ ap (λ l. x ∷ l) rest

-- ---- one list at the front of another

-- In order, a list begins another one that has its members where each other member of that one comes after them all.
pub begins_with : (c d : List Placed) → IsOrdered c → IsOrdered d → ((x : Placed) → Contains c x → Contains d x)
    → ((x : Placed) → Contains d x → Contains c x ⊎ ((y : Placed) → Contains c y → ComesBefore y x)) → IsPrefix c d
begins_with [] d oc od all others = (d, refl)
begins_with (x ∷ c) [] oc od all others = absurd (no_member x (all x (here x c)))
begins_with (x ∷ c) (y ∷ d) oc od all others =
    let next = begins_with c d oc.1 od.1 members rest in
    (next.0, λ i. same i ∷ next.1 i)
  where
    none_before : ComesBefore y x → ⊥
    none_before before = elim (others y (here y d)) as (λ _. ⊥) [
      | inl its ↦ elim (here_or_there x c y its) as (λ _. ⊥) [
        | inl same ↦ not_itself y (subst (λ (z : Placed). ComesBefore y z) same before)
        | inr later ↦ not_both y x before (oc.0 y later)
      ]
      | inr behind ↦ not_both y x before (behind x (here x c))
    ]

    same : y ≡ x
    same = elim (here_or_there y d x (all x (here x c))) as (λ _. y ≡ x) [ inl is ↦ is | inr later ↦ absurd (none_before (od.0 x later)) ]

    members : (z : Placed) → Contains c z → Contains d z
    members z is = elim (here_or_there y d z (all z (there x c z is))) as (λ _. Contains d z) [
      | inl first ↦ absurd (not_itself x (subst (λ (w : Placed). ComesBefore x w) (sym first ∙ same) (oc.0 z is)))
      | inr later ↦ later
    ]

    rest : (z : Placed) → Contains d z → Contains c z ⊎ ((w : Placed) → Contains c w → ComesBefore w z)
    rest z is = elim (others z (there y d z is)) as (λ _. Contains c z ⊎ ((w : Placed) → Contains c w → ComesBefore w z)) [
      | inl its ↦ elim (here_or_there x c z its) as (λ _. Contains c z ⊎ ((w : Placed) → Contains c w → ComesBefore w z)) [
        | inl first ↦ absurd (not_itself y (subst (λ (w : Placed). ComesBefore y w) (sym first ∙ sym same) (od.0 z is)))
        | inr later ↦ inl later
      ]
      | inr behind ↦ inr (λ w has. behind w (there x c w has))
    ]

none_left : (c rest : List Placed) → IsOrdered (c ++ rest) → ((x : Placed) → Contains (c ++ rest) x → Contains c x) → c ++ rest ≡ c
none_left c [] o all = append-nil c
none_left c (x ∷ rest) o all =
    absurd (not_itself x (front_before c (x ∷ rest) x x o (all x (Contains-append_right c (x ∷ rest) x (here x rest))) (here x rest)))

-- in order, lists with the same members are the same
pub same_lists : (c d : List Placed) → IsOrdered c → IsOrdered d → ((x : Placed) → Contains c x → Contains d x) → ((x : Placed) → Contains d x → Contains c x) → c ≡ d
same_lists c d oc od all back =
    let front = begins_with c d oc od all (λ x is. inl (back x is)) in
    sym (none_left c front.0 (subst IsOrdered front.1 od) (λ x is. back x (subst (λ (l : List Placed). Contains l x) (sym front.1) is))) ∙ sym front.1
