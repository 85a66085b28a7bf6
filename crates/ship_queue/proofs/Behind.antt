-- What stands after an entry of a chronicle.
use Rattle.std.proofs.Common.{◌≡◌, ◌<◌, ◌⊎◌, Bool, true, false, List, [], ◌∷◌, ◌++◌, filter, Contains, cond, refl, sym, ap, ◌∙◌, subst, arith, inl, inr, append_assoc}
use Rattle.std.proofs.lemmas.Bool.{cases_Bool, cases_lt, cases_order}
use Rattle.std.proofs.lemmas.Bool.Decides.{nat_tests}
use Rattle.std.proofs.lemmas.List.Elements.{Contains-append_left, Contains-append_right, Contains-append_cases, filter-append}
use Rattle.chronicle_model.specs.Chronicle.{Placed, ComesBefore, IsOrdered, Position, is_behind, behind}
use Rattle.chronicle_model.proofs.Order.{no_member, here, there, here_or_there, front_before, ordered_filter, all_pass}
use Rattle.ship_queue.specs.Messages.{position_behind}

-- ---- filters

pub none_pass : (p : Placed → Bool) (xs : List Placed) → ((x : Placed) → Contains xs x → p x ≡ false) → filter p xs ≡ []
none_pass p [] each = refl
none_pass p (x ∷ xs) each =
    ap (λ b. cond b (x ∷ filter p xs) (filter p xs)) (each x (here x xs)) ∙ none_pass p xs (λ y is. each y (there x xs y is))

pub passes : (p : Placed → Bool) (xs : List Placed) (y : Placed) → Contains (filter p xs) y → p y ≡ true
passes p [] y is = absurd (no_member y is)
passes p (x ∷ xs) y is = elim (cases_Bool (p x)) as (λ _. p y ≡ true) [
  | inl yes' ↦
      elim (here_or_there x (filter p xs) y (subst (λ b. Contains (cond b (x ∷ filter p xs) (filter p xs)) y) yes' is)) as (λ _. p y ≡ true) [
        | inl same ↦ subst (λ (z : Placed). p z ≡ true) same yes'
        | inr later ↦ passes p xs y later
      ]
  | inr no' ↦ passes p xs y (subst (λ b. Contains (cond b (x ∷ filter p xs) (filter p xs)) y) no' is)
]

-- a filter after one that lets through all that it does
filter_twice : (p q : Placed → Bool) (xs : List Placed) → ((x : Placed) → q x ≡ true → p x ≡ true) → filter q (filter p xs) ≡ filter q xs
filter_twice p q [] over = refl
filter_twice p q (x ∷ xs) over =
    let rest : filter q (filter p xs) ≡ filter q xs = filter_twice p q xs over in
    elim (cases_Bool (p x)) as (λ _. filter q (filter p (x ∷ xs)) ≡ filter q (x ∷ xs)) [
      | inl in_p ↦
          ap (λ b. filter q (cond b (x ∷ filter p xs) (filter p xs))) in_p ∙ ap (λ (l : List Placed). cond (q x) (x ∷ l) l) rest
      | inr out_p ↦ elim (cases_Bool (q x)) as (λ _. filter q (filter p (x ∷ xs)) ≡ filter q (x ∷ xs)) [
        | inl in_q ↦ absurd (cc (over x in_q, out_p))
        | inr out_q ↦ ap (λ b. filter q (cond b (x ∷ filter p xs) (filter p xs))) out_p ∙ rest ∙ sym (ap (λ b. cond b (x ∷ filter q xs) (filter q xs)) out_q)
      ]
    ]

-- ---- positions

abbrev pub StandsBehind : Position → Placed → Type 0
StandsBehind p x = (p.file < x.file) ⊎ ((p.file ≡ x.file) × (p.entries < x.place))

pub stands : (p : Position) (x : Placed) → is_behind p x ≡ true → StandsBehind p x
stands p x is = elim (cases_order p.file x.file) as (λ _. StandsBehind p x) [
  | inl same ↦ elim (cases_lt p.entries x.place) as (λ _. StandsBehind p x) [
    | inl lt ↦ inr (same, lt)
    | inr le ↦ absurd (grind (arith, nat_tests))
  ]
  | inr (inl low) ↦ inl low
  | inr (inr high) ↦ absurd (grind (arith, nat_tests))
]

pub is_so : (p : Position) (x : Placed) → StandsBehind p x → is_behind p x ≡ true
is_so p x (inl lt) = grind (arith, nat_tests)
is_so p x (inr both) = let file = both.0 in let place = both.1 in grind (arith, nat_tests)

pub is_not : (p : Position) (x : Placed) → (StandsBehind p x → ⊥) → is_behind p x ≡ false
is_not p x not = elim (cases_Bool (is_behind p x)) as (λ _. is_behind p x ≡ false) [ inl is ↦ absurd (not (stands p x is)) | inr is ↦ is ]

past : (p : Position) (x z : Placed) → StandsBehind p x → StandsBehind (position_behind x) z → StandsBehind p z
past p x z (inl a) (inl b) = inl (omega (arith, a, b))
past p x z (inl a) (inr b) = inl (omega (arith, a, b.0))
past p x z (inr a) (inl b) = inl (omega (arith, a.0, b))
past p x z (inr a) (inr b) = inr (omega (arith, a.0, b.0), omega (arith, a.1, b.1))

earlier : (x z : Placed) → ComesBefore z x → StandsBehind (position_behind x) z → ⊥
earlier x z (inl a) (inl b) = omega (arith, a, b)
earlier x z (inl a) (inr b) = omega (arith, a, b.0)
earlier x z (inr a) (inl b) = omega (arith, a.0, b)
earlier x z (inr a) (inr b) = omega (arith, a.1, b.1)

itself : (x : Placed) → StandsBehind (position_behind x) x → ⊥
itself x (inl a) = omega (arith, a)
itself x (inr a) = omega (arith, a.1)

later : (x z : Placed) → ComesBefore x z → StandsBehind (position_behind x) z
later x z (inl a) = inl a
later x z (inr a) = inr (a.0, a.1)

-- ---- after an entry

module _ (c : List Placed) (p : Position) (front : List Placed) (x : Placed) (rest : List Placed) (o : IsOrdered c) (is : behind c p ≡ (front ++ x ∷ []) ++ rest) where
  ordered : IsOrdered ((front ++ x ∷ []) ++ rest)
  ordered = subst IsOrdered is (ordered_filter (is_behind p) c o)

  its : Contains (front ++ x ∷ []) x
  its = Contains-append_right front (x ∷ []) x (here x [])

  x_behind : StandsBehind p x
  x_behind = stands p x (passes (is_behind p) c x (subst (λ (l : List Placed). Contains l x) (sym is) (Contains-append_left (front ++ x ∷ []) rest x its)))

  not_front : (z : Placed) → Contains (front ++ x ∷ []) z → is_behind (position_behind x) z ≡ false
  not_front z has = elim (Contains-append_cases front (x ∷ []) z has) as (λ _. is_behind (position_behind x) z ≡ false) [
    | inl low ↦ is_not (position_behind x) z (earlier x z (front_before front (x ∷ rest) z x (subst IsOrdered (append_assoc front (x ∷ []) rest) ordered) low (here x rest)))
    | inr last ↦ elim (here_or_there x [] z last) as (λ _. is_behind (position_behind x) z ≡ false) [
      | inl same ↦ subst (λ (w : Placed). is_behind (position_behind x) w ≡ false) same (is_not (position_behind x) x (itself x))
      | inr none ↦ absurd (no_member z none)
    ]
  ]

  all_rest : (z : Placed) → Contains rest z → is_behind (position_behind x) z ≡ true
  all_rest z has = is_so (position_behind x) z (later x z (front_before (front ++ x ∷ []) rest x z ordered its has))

  pub behind_mark : behind c (position_behind x) ≡ rest
  behind_mark =
      sym (filter_twice (is_behind p) (is_behind (position_behind x)) c (λ z b. is_so p z (past p x z x_behind (stands (position_behind x) z b))))
      ∙ ap (filter (is_behind (position_behind x))) is ∙ filter-append (is_behind (position_behind x)) (front ++ x ∷ []) rest
      ∙ ap (λ (l : List Placed). l ++ filter (is_behind (position_behind x)) rest) (none_pass (is_behind (position_behind x)) (front ++ x ∷ []) not_front)
      ∙ all_pass (is_behind (position_behind x)) rest all_rest
